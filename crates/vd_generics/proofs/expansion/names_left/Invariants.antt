use Rattle.std.proofs.Common.{◌≤◌, length}
use Rattle.vd_forest.specs.Forest.{tree_count}
use Rattle.vd_forest.specs.Store.{Extends}
use Rattle.vd_generics.proofs.expansion.names_left.Given as goal

abbrev pub invariant-loop-first : goal.invariant-loop-first
invariant-loop-first l = record { made_in : l.made ≤ length l.out; extends : Extends l.fn.out l.out }

abbrev pub decreases-loop-first : goal.decreases-loop-first
decreases-loop-first l = tree_count l.left
