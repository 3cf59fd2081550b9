use Rattle.std.proofs.Common.{List, ◌∷◌, take}
use Rattle.vd_composites.specs.Composites.{Value}
use Rattle.vd_environments.specs.Got.{Got}
use Rattle.vd_forest.specs.Store.{Extends}
use Rattle.vd_value_rules.specs.Indicated.{static_of}
use Rattle.vd_known_designs.specs.Designs.{AreIndicated, Knows}
use Rattle.vd_static_values.specs.Entries.{IsFound}
use Rattle.vd_value_rules.specs.Designs.{Design}
use Rattle.vd_value_rules.specs.Knowledge.{Known, TwoIndicated, constants_of}
use Rattle.vd_values.specs.declared.scalar.Scalar.{Scalar}
use Rattle.vd_known_forms.proofs.constants.constants.Given as goal

abbrev pub invariant-loop-number : goal.invariant-loop-number
invariant-loop-number l = record {
  knows : (d : Design) (i : TwoIndicated) (k : Known) (ks : List Known) (g : Got (Value Scalar)) → IsFound l.value g → Knows d l.fn.design (k ∷ ks)
      → AreIndicated l.fn.design.table.subtypes l.of i
      → Knows d l.design (constants_of (take l.number-index l.numbers) i (static_of l.fn.known) g k ∷ ks);
  extends : Extends l.fn.design.table.subtypes l.design.table.subtypes;
}
