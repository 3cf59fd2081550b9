use Rattle.std.proofs.Common.{◌≡◌, List, ◌∷◌, take}
use Rattle.vd_known_designs.specs.Designs.{AreIndicated, Knows}
use Rattle.vd_value_rules.specs.Designs.{Design}
use Rattle.vd_value_rules.specs.Knowledge.{Known, TwoIndicated, signals_known}
use Rattle.vd_known_forms.proofs.objects.signals.Given as goal

abbrev pub invariant-loop-number : goal.invariant-loop-number
invariant-loop-number l = record {
  knows : (d : Design) (i : TwoIndicated) (k : Known) (ks : List Known) → Knows d l.fn.design (k ∷ ks)
      → AreIndicated l.fn.design.table.subtypes l.of i
      → Knows d l.design (signals_known (take l.number-index l.numbers) i k ∷ ks);
  same : l.design.table.subtypes ≡ l.fn.design.table.subtypes;
}
