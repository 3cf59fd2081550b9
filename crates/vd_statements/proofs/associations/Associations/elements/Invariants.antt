use Rattle.std.proofs.Common.{◌≤◌, length}
use Rattle.vd_forest.specs.Store.{Extends}
use Rattle.vd_statements.specs.Lists.{AreWithin}
use Rattle.vd_statements.proofs.associations.Associations.elements.Given as goal

abbrev pub invariant-loop-left : goal.invariant-loop-left
invariant-loop-left l = record {
  left_in : l.left ≤ length l.out;
  lists_in : AreWithin (length l.out) l.lists.lists.items;
  extends : Extends l.fn.out l.out;
}

abbrev pub decreases-loop-left : goal.decreases-loop-left
decreases-loop-left l = l.left
