use Rattle.std.proofs.Common.{◌≤◌, length}
use Rattle.vd_forest.specs.Forest.{size}
use Rattle.vd_forest.specs.Store.{Extends}
use Rattle.vd_statements.specs.Lists.{AreWithin}
use Rattle.vd_lowering.proofs.contexts.Contexts.all_clauses.Given as goal

abbrev pub invariant-loop-first : goal.invariant-loop-first
invariant-loop-first l = record {
  made_in : l.made ≤ length l.out;
  clauses_in : AreWithin (length l.out) l.self.clauses.items;
  extends : Extends l.fn.out l.out;
}

abbrev pub decreases-loop-first : goal.decreases-loop-first
decreases-loop-first l = size l.left
