use Rattle.std.proofs.Common.{◌≡◌}
use Rattle.vd_forest.specs.Forest.{size}
use Rattle.vd_weighing.specs.Weights.{numbers_of}
use Rattle.vd_weighing.specs.Tables.{with_each}
use Rattle.vd_weighing.proofs.table.Table.put_each.Given as goal

abbrev pub invariant-loop-first : goal.invariant-loop-first
invariant-loop-first l = with_each l.self (numbers_of l.left) l.number ≡ with_each l.fn.self (numbers_of l.trees) l.number

abbrev pub decreases-loop-first : goal.decreases-loop-first
decreases-loop-first l = size l.left
