use Rattle.std.proofs.Common.{◌≡◌, ◌≤◌, ◌+◌, ◌++◌, length}
use Rattle.vd_forest.specs.Forest.{size, tree_count}
use Rattle.vd_first_processes.specs.Numbering.{number_in}
use Rattle.vd_first_processes.specs.Operations.{operations}
use Rattle.vd_first_processes.proofs.expressions.+write_operations.Given as goal

abbrev pub decreases-write_operations : goal.decreases-write_operations
decreases-write_operations l = size l.from.now

abbrev pub invariant-loop-first : goal.invariant-loop-first
invariant-loop-first l = record {
  smaller : size l.left ≤ size l.fn.from;
  counted : l.count ≤ length l.out.items;
  count : l.count + tree_count l.left ≡ tree_count l.fn.from;
  same : l.out.items ++ operations (number_in l.numbers) l.left ≡ l.fn.out.items ++ operations (number_in l.numbers) l.fn.from;
}

abbrev pub decreases-loop-first : goal.decreases-loop-first
decreases-loop-first l = size l.left
