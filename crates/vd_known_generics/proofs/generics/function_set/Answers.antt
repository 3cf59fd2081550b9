use Rattle.vd_known_generics.proofs.FunctionLemmas.{called_set}
use Rattle.vd_known_generics.proofs.generics.function_set.Goals as goal

pub returns-clause-knows : goal.returns-clause-knows
returns-clause-knows c = λ d i gives other calls k ks knows is.
    called_set c.set.result d c.args.design.now k ks c.all_bounds.new.self c.set.new.self c.args.number c.number.result c.args.function i gives other calls c.in_ok-value.value c.in_ok-bounds.bounds
    c.in_ok-bounds.ensures.same c.number.ensures knows is c.in_ok-value.ensures c.in_ok-bounds.ensures.bounds c.set.ensures.same c.set.ensures.known
