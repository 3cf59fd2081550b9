-- One declaration a name, no word that may be left out, and ends that say what ends.
use Rattle.std.specs.Prelude.{ℕ, zero, suc, ◌+◌, ◌-◌, nat_lt, nat_eq, ◌&&◌, if◌then◌else◌, List, [], ◌∷◌, Option, None, Some, slice_get}
use Rattle.vd_bytes.specs.declared.places.Place.{Place}
use Rattle.vd_declarations.specs.declared.declarations.Declaration.{Declaration}
use Rattle.vd_forest.specs.Forest.{Forest, nothing, more, next_of, parts_of, turned, with_next}
use Rattle.vd_forms.specs.declared.form.Form.{Form}
use Rattle.vd_forms.specs.declared.form.Form.TheVariants as form
use Rattle.vd_forms.specs.Forms.{same_form}
use Rattle.vd_resolved.specs.declared.node.Resolved.{Resolved}
use Rattle.vd_rewriting.specs.Inheriting.{Rules}
use Rattle.vd_statements.specs.Slots.{change_for, is_unit}
use Rattle.vd_statements.specs.declared.slots.Change.{Change}
use Rattle.vd_statements.specs.declared.slots.Change.TheVariants as does
use Rattle.vd_statements.specs.declared.slots.Slot.{Slot}

-- ---- nodes

abbrev pub plain : Form → Resolved
plain f = record { form = f; declaration = None; mark = None; position = 0 }

abbrev pub leaf : Form → Place → Forest Resolved → Forest Resolved
leaf f place next = more (plain f) [] place nothing next

-- ---- lists of names

-- the list of names, which is behind so many parts
abbrev pub list_in : ℕ → Forest Resolved → Forest Resolved
list_in zero parts = parts
list_in (suc _) parts = next_of parts

abbrev pub names_in : ℕ → Forest Resolved → Forest Resolved
names_in count parts = parts_of (list_in count parts)

-- the list with one name, and what stands behind it
abbrev pub list_of : Forest Resolved → Forest Resolved → Forest Resolved
list_of name nothing = nothing
list_of name (more f text place names next) = more f [] place name next

abbrev pub parts_with : ℕ → Forest Resolved → Forest Resolved → Forest Resolved
parts_with zero parts list = list
parts_with (suc _) parts list = with_next parts list

-- a declaration of the first of some names
abbrev pub one_of : Resolved → List ℕ → Place → ℕ → Forest Resolved → Forest Resolved → Forest Resolved → Forest Resolved
one_of n text place count parts name next = more n text place (parts_with count parts (list_of (with_next name nothing) (list_in count parts))) next

-- a declaration of each of some names, of which the last one comes first
abbrev pub each_back : Resolved → List ℕ → Place → ℕ → Forest Resolved → Forest Resolved → Forest Resolved → Forest Resolved
each_back n text place count parts nothing next = next
each_back n text place count parts (more f t p ps rest) next =
    each_back n text place count parts rest (one_of n text place count parts (more f t p ps rest) next)

abbrev pub each_of : Resolved → List ℕ → Place → ℕ → Forest Resolved → Forest Resolved → Forest Resolved
each_of n text place count parts next = each_back n text place count parts (turned (names_in count parts) nothing) next

-- ---- names of units

abbrev pub name_of_declared : Option Declaration → List ℕ
name_of_declared None = []
name_of_declared (Some d) = d.name

abbrev pub name_of : List Declaration → ℕ → List ℕ
name_of ds number = name_of_declared (slice_get ds number)

abbrev pub named : List Declaration → Option ℕ → Resolved → List ℕ → Place → Forest Resolved → Forest Resolved → Forest Resolved
named ds None n text place parts next = more n text place parts next
named ds (Some number) n text place parts next = more (plain form.Identifier) (name_of ds number) place nothing next

-- ---- the pass

abbrev pub changed : List Declaration → Change → Option ℕ → Resolved → List ℕ → Place → Forest Resolved → Forest Resolved → Forest Resolved
changed ds does.Kept unit n text place parts next = more n text place parts next
changed ds does.Left unit n text place parts next = leaf form.Absent place next
changed ds (does.Given f) unit n text place parts next = if same_form n.form form.Absent then leaf f place next else more n text place parts next
changed ds does.Named unit n text place parts next = named ds unit n text place parts next
changed ds (does.Each count) unit n text place parts next = each_of n text place count parts next

-- the unit that ends among the parts of a node: that of its first part, or else the node itself
abbrev pub or_unit : Option ℕ → Option ℕ → Option ℕ
or_unit None unit = unit
or_unit (Some own) unit = Some own

abbrev pub unit_inside : Form → Option ℕ → Option ℕ → Option ℕ
unit_inside form.Closing own unit = unit
unit_inside f own unit = if is_unit f then own else None

abbrev pub unit_down : Slot → Resolved → Option ℕ
unit_down slot n = unit_inside n.form n.declaration slot.unit

-- the same behind a part of a node
abbrev pub unit_behind : Option Form → ℕ → Option ℕ → Option ℕ → Option ℕ
unit_behind None at own unit = unit
unit_behind (Some round) at own unit = if nat_eq at 0 && is_unit round then or_unit own unit else unit

abbrev pub unit_along : Slot → Resolved → Option ℕ
unit_along slot n = unit_behind slot.round slot.at n.declaration slot.unit

-- places stop at the greatest number of 32 bits
abbrev pub behind : ℕ → ℕ
behind at = if nat_lt at 4294967295 then at + 1 else 4294967295

abbrev pub words : List Declaration → Rules Resolved Resolved Slot
words ds = record {
  down = λ slot n text place parts. record { round = Some n.form; at = 0; unit = unit_down slot n };
  along = λ slot n text place parts. record { round = slot.round; at = behind slot.at; unit = unit_along slot n };
  pass = λ slot n text place parts new next. changed ds (change_for slot.round slot.at n.form) slot.unit n text place new next;
}

-- nothing is round the units
abbrev pub outside : Slot
outside = record { round = None; at = 0; unit = None }
