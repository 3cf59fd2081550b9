use Rattle.std.proofs.Common.{◌≡◌, ◌≤◌, [], length}
use Rattle.vd_forest.specs.Forest.{nothing, size, turned}
use Rattle.vd_forest.specs.Store.{at, Extends}
use Rattle.vd_first_passes.specs.Lowering.{read_names, firsts}
use Rattle.vd_first_passes.proofs.lowering.write_read_set.Given as goal

-- with the names that are left, what is made becomes what is wanted
abbrev pub invariant-loop-first : goal.invariant-loop-first
invariant-loop-first l = record {
  made_in : l.made ≤ length l.out;
  extends : Extends l.fn.out l.out;
  same : turned (firsts l.seen (read_names l.left)) (at l.out l.made) ≡ turned (firsts [] (read_names l.statements)) nothing;
}

abbrev pub decreases-loop-first : goal.decreases-loop-first
decreases-loop-first l = size l.left
