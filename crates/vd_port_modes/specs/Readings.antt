-- What values of the code are read as.
use Rattle.std.specs.Prelude.{◌++◌, ◌∷◌, List, None, Option, Some, [], true, ℕ}
use Rattle.std.specs.Borrow.{Bor}
use Rattle.vd_meaning.specs.Building.{Mode}
use Rattle.vd_port_lists.specs.Modes.{read_mode, read_plain}
use Rattle.vd_port_lists.specs.declared.modes.Mode.{Mode as WrittenMode}
use Rattle.vd_port_modes.specs.declared.found.Oriented.{Oriented as WrittenOriented}
use Rattle.vd_port_modes.specs.declared.reaching.Reached.{Reached as WrittenReached}
use Rattle.vd_value_rules.specs.Designs.{Oriented}
use Rattle.vd_value_rules.specs.Reaching.{Reached}

abbrev pub read_oriented : WrittenOriented → Oriented
read_oriented o = record { mode = read_mode o.mode; is_swapped = o.is_swapped }

abbrev pub read_oriented_some : Option WrittenOriented → Option Oriented
read_oriented_some None = None
read_oriented_some (Some o) = Some (read_oriented o)

abbrev pub read_plain_some : Option WrittenMode → Option Mode
read_plain_some None = None
read_plain_some (Some mode) = Some (read_plain mode)

-- ---- what a name names

abbrev pub read_text : Option (Bor (List ℕ)) → Option (List ℕ)
read_text None = None
read_text (Some text) = Some text.now

abbrev pub read_fields : List (Bor (List ℕ)) → List (List ℕ)
read_fields [] = []
read_fields (text ∷ texts) = text.now ∷ read_fields texts

abbrev pub read_reached : WrittenReached → Reached
read_reached r = record { declaration = r.declaration; fields = read_fields r.fields.items; attribute = read_text r.attribute; is_value = r.is_value }

abbrev pub value_of_reached : Reached → Reached
value_of_reached r = record r { is_value = true }

abbrev pub attribute_behind : Reached → List ℕ → Reached
attribute_behind r attribute = record r { attribute = Some attribute }

abbrev pub field_behind : Reached → List ℕ → Reached
field_behind r name = record r { fields = r.fields ++ name ∷ [] }
