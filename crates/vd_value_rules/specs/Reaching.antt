-- What a name names: an object and the fields that are selected in it, before an attribute or a call makes something else of it; and the mode that
-- it has there, where it is a port. (IEEE 1076, names; interface declarations; mode views.)
use Rattle.std.specs.Prelude.{Bool, List, None, Option, Some, [], codes, false, if◌then◌else◌, is_some, not, true, ℕ, ◌&&◌, ◌++◌, ◌||◌, ◌∷◌}
use Rattle.vd_declarations.specs.declared.classes.Class.{Class}
use Rattle.vd_meaning.specs.Building.{Input, Mode}
use Rattle.vd_forest.specs.Forest.{Forest, more, nothing, text_of}
use Rattle.vd_forms.specs.declared.form.Form.{Form}
use Rattle.vd_meaning.specs.Tables.{ElementRole, FunctionRole, MarkRole, Role, SignalRole, VariableRole, role_of}
use Rattle.vd_resolved.specs.declared.node.Resolved.{Resolved}
use Rattle.vd_value_rules.specs.Designs.{Design, Oriented, at_fields, class_of, is_view, mode_in, mode_of_port, straight}
use Rattle.vd_declarations.specs.declared.classes.Class.TheVariants as class
use Rattle.vd_forms.specs.declared.form.Form.TheVariants as form

pub record Reached : Type 0 where
  pub declaration : Option ℕ
  -- the names of the record elements that are selected, in order
  pub fields : List (List ℕ)
  -- the first attribute behind it
  pub attribute : Option (List ℕ)
  -- a call, a conversion or a qualified expression, which is another value
  pub is_value : Bool

abbrev pub first_reached : Resolved → Reached
first_reached n = record { declaration = n.declaration; fields = []; attribute = None; is_value = false }

-- behind a point stands a record element, or what a unit declares
abbrev pub name_of_element : Design → Option ℕ → List ℕ
name_of_element d None = []
name_of_element d (Some n) = (d.table.declared n).name

abbrev pub selected_in : Role → Design → Resolved → Reached → Reached
selected_in ElementRole d n r = record r { fields = r.fields ++ name_of_element d n.declaration ∷ [] }
selected_in _ d n r = first_reached n

-- brackets hold arguments of a call or the operand of a conversion, or else an index
abbrev pub bracketed_in : Role → Reached → Reached
bracketed_in FunctionRole r = record r { is_value = true }
bracketed_in MarkRole r = record r { is_value = true }
bracketed_in _ r = r

abbrev pub with_piece : Form → Design → Resolved → Forest Resolved → Reached → Reached
with_piece form.Selection d n parts r = selected_in (role_of d.table n.declaration) d n r
with_piece form.Arguments d n parts r = bracketed_in (role_of d.table n.declaration) r
with_piece form.Attribute d n parts r = record r { attribute = Some (text_of parts) }
with_piece form.RangeAttribute d n parts r = record r { attribute = Some (codes "range") }
with_piece form.Qualification d n parts r = record r { is_value = true }
with_piece _ d n parts r = r

-- behind an attribute or another value no object is named any more
abbrev pub is_over : Reached → Bool
is_over r = r.is_value || is_some r.attribute

abbrev pub reached_behind : Design → Forest Resolved → Reached → Reached
reached_behind d nothing r = r
reached_behind d (more n text place parts next) r = reached_behind d next (if is_over r then r else with_piece n.form d n parts r)

abbrev pub nothing_reached : Reached
nothing_reached = record { declaration = None; fields = []; attribute = None; is_value = true }

-- what a name with these parts names
abbrev pub reached : Design → Forest Resolved → Reached
reached d nothing = nothing_reached
reached d (more n text place parts next) = reached_behind d next (first_reached n)

-- ---- objects

abbrev pub role_reached : Design → Reached → Role
role_reached d r = role_of d.table r.declaration

abbrev pub is_signal_role : Role → Bool
is_signal_role SignalRole = true
is_signal_role _ = false

abbrev pub is_variable_role : Role → Bool
is_variable_role VariableRole = true
is_variable_role _ = false

-- a signal or a port, or a part of one, as such
abbrev pub is_signal_name : Design → Reached → Bool
is_signal_name d r = is_signal_role (role_reached d r) && not (is_over r)

abbrev pub is_variable_name : Design → Reached → Bool
is_variable_name d r = is_variable_role (role_reached d r) && not (is_over r)

-- ---- modes of ports and their elements

abbrev pub is_port_class : Class → Bool
is_port_class class.Port = true
is_port_class _ = false

-- what mode or view a port, or the part of it that is named, has
abbrev pub oriented_port : Design → Reached → ℕ → Option Oriented
oriented_port d r n = if is_port_class (class_of d n) then Some (at_fields d (straight (mode_of_port d n)) r.fields) else None

abbrev pub oriented_of : Design → Reached → Option ℕ → Option Oriented
oriented_of d r None = None
oriented_of d r (Some n) = oriented_port d r n

abbrev pub oriented : Design → Reached → Option Oriented
oriented d r = oriented_of d r r.declaration

abbrev pub mode_or_none : Option Oriented → Option Mode
mode_or_none None = None
mode_or_none (Some o) = mode_in o

-- the mode of a port or an element of one
abbrev pub mode_reached : Design → Reached → Option Mode
mode_reached d r = mode_or_none (oriented d r)

abbrev pub has_view : Option Oriented → Bool
has_view None = false
has_view (Some o) = is_view o.mode

abbrev pub is_input : Option Mode → Bool
is_input (Some Input) = true
is_input _ = false
