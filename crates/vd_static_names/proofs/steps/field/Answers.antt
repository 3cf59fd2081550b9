use Rattle.vd_static_names.proofs.steps.field.Goals as goal

pub returns-clause-named : goal.returns-clause-named
returns-clause-named c = λ e m p is. c.with_field.ensures.named e m p c.args.number is c.field_of-found.ensures.is
