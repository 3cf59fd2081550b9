use Rattle.std.proofs.Common.{List, ◌∷◌, take}
use Rattle.vd_forest.specs.Store.{Extends}
use Rattle.vd_value_rules.specs.Indicated.{static_of}
use Rattle.vd_known_designs.specs.Designs.{AreIndicated, Knows}
use Rattle.vd_value_rules.specs.Designs.{Design}
use Rattle.vd_value_rules.specs.Knowledge.{Known, TwoIndicated, later_objects as objects_later}
use Rattle.vd_known_forms.proofs.objects.later_objects.Given as goal

abbrev pub invariant-loop-number : goal.invariant-loop-number
invariant-loop-number l = record {
  knows : (d : Design) (i : TwoIndicated) (k : Known) (ks : List Known) → Knows d l.fn.design (k ∷ ks)
      → AreIndicated l.fn.design.table.subtypes l.of i
      → Knows d l.design (objects_later (take l.number-index l.numbers) i (static_of l.known) k ∷ ks);
  extends : Extends l.fn.design.table.subtypes l.design.table.subtypes;
}
