use Rattle.std.proofs.Common.{◌≤◌, length, drop}
use Rattle.vd_trees.specs.declared.revision.Revision.TheVariants.{V2019}
use Rattle.vd_forest.specs.Store.{Extends, Holds}
use Rattle.vd_forms.specs.Validity.{IsDesign, all_joined}
use Rattle.vd_forms.proofs.designs.copied_19.Given as goal

abbrev pub invariant-loop-left : goal.invariant-loop-left
invariant-loop-left l = record {
  within : l.left ≤ length l.others;
  extends : Extends l.fn.store l.store;
  holds : Holds l.store l.made (all_joined (drop l.left l.others));
  valid : IsDesign V2019 (all_joined (drop l.left l.others));
}

abbrev pub decreases-loop-left : goal.decreases-loop-left
decreases-loop-left l = l.left
