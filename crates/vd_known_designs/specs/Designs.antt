-- What is known of a design at a place, in memory.
use Rattle.std.specs.Prelude.{◌≡◌, ◌∷◌, List}
use Rattle.vd_forest.specs.Forest.{Forest}
use Rattle.vd_value_rules.specs.declared.forms.IndicatedForm.{IndicatedForm}
use Rattle.vd_static_names.specs.Jumps.{AreJumps}
use Rattle.vd_value_rules.specs.Made.{Indicates}
use Rattle.vd_known_designs.specs.declared.design.KnownDesign.{KnownDesign}
use Rattle.vd_known_designs.specs.declared.indications.TwoSubtypes.{TwoSubtypes}
use Rattle.vd_known_designs.specs.Known.{AreKnown}
use Rattle.vd_meaning.specs.Tables.{table}
use Rattle.vd_value_rules.specs.Designs.{Design}
use Rattle.vd_value_rules.specs.Knowledge.{Known, TwoIndicated}

-- The first is known now, and each further one is known again when the table has gone back to one mark more.
pub record Knows (d : Design) (x : KnownDesign) (ks : List Known) : Type 0 where
  pub table : d.table ≡ table x.revision x.declarations.now
  pub known : AreKnown d.table x.table ks
  pub jumps : AreJumps x.fields.jumps.items x.table.subtypes

-- something is known
pub record IsReady (x : KnownDesign) : Type 0 where
  pub design : Design
  pub now : Known
  pub round : List Known
  pub knows : Knows design x (now ∷ round)

-- the numbers stand for a subtype as it is and as it is for choices
pub record AreIndicated (subtypes : List (Forest IndicatedForm)) (x : TwoSubtypes) (i : TwoIndicated) : Type 0 where
  pub own : Indicates subtypes x.own i.own
  pub choosing : Indicates subtypes x.choosing i.choosing
