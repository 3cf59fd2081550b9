use Rattle.std.proofs.Common.{refl}
use Rattle.vd_evaluator.proofs.PieceLemmas.{limits_node}
use Rattle.vd_evaluator.proofs.names.range.Goals as goal

pub returns : goal.returns
returns c = limits_node _ _ _ _ c.args.down c.args.parts.now _ c.in_ok-what.ensures refl
