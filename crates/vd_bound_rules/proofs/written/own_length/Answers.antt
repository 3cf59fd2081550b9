use Rattle.std.proofs.Common.{ap, sym}
use Rattle.vd_value_rules.specs.Bounds.{WithLength}
use Rattle.vd_bound_rules.proofs.written.own_length.Goals as goal

pub returns-clause-is : goal.returns-clause-is
returns-clause-is c = λ d k ks knows. ap WithLength (sym (c.in_ok-shape.ensures.shape d k ks knows).length)
