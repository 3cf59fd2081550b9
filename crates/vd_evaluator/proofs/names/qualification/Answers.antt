use Rattle.std.proofs.Common.{refl}
use Rattle.vd_evaluator.proofs.PieceLemmas.{qualification_node}
use Rattle.vd_evaluator.proofs.names.qualification.Goals as goal

pub returns : goal.returns
returns c = qualification_node _ _ _ _ c.args.parts.now _ c.in_ok-head.head c.number_of.result c.number_of.ensures c.in_ok-head.ensures c.in_ok-what.ensures refl
