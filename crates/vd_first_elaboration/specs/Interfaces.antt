-- What a design shows to those that use it: its units with their names, in the order of analysis, and the ports of each entity.
-- (IEEE 1076, entity declarations, architecture bodies.)
use Rattle.std.specs.Prelude.{ℕ, List, [], ◌∷◌, if◌then◌else◌}
use Rattle.vd_forest.specs.Forest.{Forest, nothing, more, text_of, next_of, erased}
use Rattle.vd_first_trees.specs.declared.form.Form.{Form}
use Rattle.vd_first_trees.specs.declared.form.Form.TheVariants as form
use Rattle.vd_first_trees.specs.Forms.{same_form}
use Rattle.vd_first_elaboration.specs.Tops.{library_units}
use Rattle.vd_first_elaboration.specs.Ports.{Port, entity_ports}

-- an entity's, or that of its other units, which are architectures
pub data UnitInterface : Type 0 where
  entity : (name : List ℕ) → (ports : List Port) → UnitInterface
  architecture : (name : List ℕ) → (of_entity : List ℕ) → UnitInterface

abbrev pub unit_interface : Form → Forest Form → UnitInterface
unit_interface f parts =
    if same_form f form.EntityDeclaration then entity (text_of parts) (entity_ports parts) else architecture (text_of parts) (text_of (next_of parts))

abbrev pub unit_interfaces : Forest Form → List UnitInterface
unit_interfaces nothing = []
unit_interfaces (more f t p parts next) = unit_interface f parts ∷ unit_interfaces next

-- the interface of some design units. Places play no role in it
abbrev pub interface_of : Forest Form → List UnitInterface
interface_of units = unit_interfaces (library_units (erased units))
