use Rattle.std.proofs.Common.{◌≡◌}
use Rattle.vd_forest.specs.Forest.{size}
use Rattle.vd_name_clauses.specs.Pieces.{last_tree}
use Rattle.vd_name_clauses.proofs.pieces.last_tree.Given as goal

abbrev pub invariant-loop-first : goal.invariant-loop-first
invariant-loop-first l = last_tree l.left ≡ last_tree l.fn.pieces

abbrev pub decreases-loop-first : goal.decreases-loop-first
decreases-loop-first l = size l.left
