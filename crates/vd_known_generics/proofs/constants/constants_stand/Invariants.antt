use Rattle.std.proofs.Common.{List, drop}
use Rattle.vd_forest.specs.Store.{Extends}
use Rattle.vd_known_designs.specs.Designs.{AreIndicated}
use Rattle.vd_known_generics.specs.Standing.{Stands, StandsSoFar}
use Rattle.vd_meaning.specs.Facets.{nth}
use Rattle.vd_meaning.specs.Meanings.{meanings}
use Rattle.vd_value_rules.specs.Declaring.{KnownAndLeft, constants_stand}
use Rattle.vd_value_rules.specs.Designs.{Design}
use Rattle.vd_value_rules.specs.Knowledge.{Known, TwoIndicated}
use Rattle.vd_known_generics.proofs.constants.constants_stand.Given as goal

abbrev pub invariant-loop-number : goal.invariant-loop-number
invariant-loop-number l = record {
  stands : (d : Design) (i : TwoIndicated) (s : KnownAndLeft) (ks : List Known) → Stands d l.fn.design l.actuals s ks → AreIndicated l.fn.design.table.subtypes l.of i
      → let m = nth 0 (meanings d.table l.default) in
      StandsSoFar d l.design l.left ks (λ r. constants_stand m i (drop l.number-index l.numbers) r.left r.known) (constants_stand m i l.numbers s.left s.known);
  extends : Extends l.fn.design.table.subtypes l.design.table.subtypes;
}
