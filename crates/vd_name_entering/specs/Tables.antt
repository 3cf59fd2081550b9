-- The tables of the units of a design as functions of their keys.
use Rattle.std.specs.Prelude.{◌≡◌, ℕ, Bool, Option}
use Rattle.indexmap.specs.IndexMap.{get}
use Rattle.indexmap.specs.IndexSet.{contains}
use Rattle.vd_forest.specs.Forest.{Forest}
use Rattle.vd_forms.specs.declared.form.Form.{Form}
use Rattle.vd_region_tables.specs.declared.keys.Name.{Name}
use Rattle.vd_region_tables.specs.Tables.{same_name}
use Rattle.vd_naming.specs.Ports.{last_architecture}
use Rattle.vd_naming.specs.Units.{has_body_in}
use Rattle.vd_name_entering.specs.declared.bodies.Bodies.{Bodies}
use Rattle.vd_name_entering.specs.declared.architectures.Architectures.{Architectures}

-- the name is that of a package with a body
abbrev pub has_body : Bodies → Name → Bool
has_body bodies key = contains same_name bodies.names key

-- the number of the last architecture of the entity of this name
abbrev pub last_of : Architectures → Name → Option ℕ
last_of architectures key = get same_name architectures.last key

-- the tables are those of these units
pub record AreTablesOf (units : Forest Form) (bodies : Bodies) (architectures : Architectures) : Type 0 where
  pub bodies_are : (key : Name) → has_body bodies key ≡ has_body_in key.bytes.items units
  pub architectures_are : (key : Name) → last_of architectures key ≡ last_architecture key.bytes.items 0 units
