use Rattle.std.proofs.Common.{◌≡◌, ◌++◌, drop}
use Rattle.vd_vectors.specs.Logical.{combined}
use Rattle.vd_vectors.proofs.lists.of_lists.Given as goal

abbrev pub invariant-loop-i : goal.invariant-loop-i
invariant-loop-i l = l.made.items ++ combined l.fn.operator (drop l.i l.left) (drop l.i l.right) ≡ combined l.fn.operator l.left l.right
