use Rattle.std.proofs.Common.{◌≡◌, ◌≤◌, drop, length}
use Rattle.vd_forest.specs.Store.{Extends, at}
use Rattle.vd_value_rules.specs.Indicated.{texts_in}
use Rattle.vd_known_forms.proofs.lists.literals.Given as goal

abbrev pub invariant-loop-left : goal.invariant-loop-left
invariant-loop-left l = record {
  left : l.left ≤ length l.texts;
  within : l.first ≤ length l.subtypes;
  texts : texts_in (at l.subtypes l.first) ≡ drop l.left l.texts;
  extends : Extends l.fn.subtypes l.subtypes;
}

abbrev pub decreases-loop-left : goal.decreases-loop-left
decreases-loop-left l = l.left
