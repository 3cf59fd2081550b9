use Rattle.std.proofs.Common.{◌≡◌, ◌≤◌, length, map, reverse, take}
use Rattle.vd_forest.specs.Store.{Extends, at}
use Rattle.vd_value_rules.specs.Indicated.{texts_in}
use Rattle.vd_known_designs.proofs.literals.add_texts.Given as goal

abbrev pub invariant-loop-text : goal.invariant-loop-text
invariant-loop-text l = record {
  within : l.made ≤ length l.subtypes;
  are : texts_in (at l.subtypes l.made) ≡ reverse (map (λ text. text.now) (take l.text-index l.texts));
  extends : Extends l.initial.subtypes l.subtypes;
}
