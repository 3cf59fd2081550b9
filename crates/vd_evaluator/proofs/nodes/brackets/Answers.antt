use Rattle.std.proofs.Common.{refl}
use Rattle.vd_evaluator.proofs.SenseLemmas.{only_node}
use Rattle.vd_evaluator.proofs.nodes.brackets.Goals as goal

pub returns-in-Some : goal.returns-in-Some
returns-in-Some c = only_node _ _ _ _ _ _ c.in-Some.found (rw c.in-Some.is at c.in_ok-found.ensures) refl refl
