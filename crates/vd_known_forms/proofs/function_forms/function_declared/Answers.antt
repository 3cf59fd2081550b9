use Rattle.vd_known_forms.proofs.function_forms.function_declared.Goals as goal

pub returns-clause-knows : goal.returns-clause-knows
returns-clause-knows c = λ d inner k ks knows. c.function_known.ensures.knows d inner ks knows
