-- The ports of an entity, one by one in the order of the text. (IEEE 1076, port clauses, interface declarations.)
use Rattle.std.specs.Prelude.{ℕ, List, [], ◌∷◌, ◌++◌, codes, if◌then◌else◌}
use Rattle.vd_forest.specs.Forest.{Forest, nothing, more, parts_of, next_of}
use Rattle.vd_first_trees.specs.declared.form.Form.{Form}
use Rattle.vd_first_trees.specs.declared.form.Form.TheVariants as form
use Rattle.vd_first_trees.specs.Forms.{same_form}

pub data Mode : Type 0 where
  input : Mode
  output : Mode
  both_ways : Mode

-- the word for a mode
abbrev pub mode_word : Mode → List ℕ
mode_word input = codes "in"
mode_word output = codes "out"
mode_word both_ways = codes "inout"

-- a port: its name, its mode, and its type mark, that is the last identifier of the name of its type
pub record Port : Type 0 where
  pub name : List ℕ
  pub mode : Mode
  pub mark : List ℕ

abbrev pub mode_of : Forest Form → Mode
mode_of nothing = input
mode_of (more f t p parts next) = if same_form f form.Out then output else input

-- the text of the last of some leaves, or this text where there is none
abbrev pub last_text_or : List ℕ → Forest Form → List ℕ
last_text_or text nothing = text
last_text_or text (more f t p parts next) = last_text_or t next

-- the type mark of a subtype indication, whose one part is a selected name
abbrev pub type_mark : Forest Form → List ℕ
type_mark subtype = last_text_or [] (parts_of (parts_of subtype))

-- a port for each of some identifiers
abbrev pub ports_named : Forest Form → Mode → List ℕ → List Port
ports_named nothing mode mark = []
ports_named (more f name p parts next) mode mark = record { name = name; mode = mode; mark = mark } ∷ ports_named next mode mark

-- the ports of some port declarations. Each has a list of identifiers, a mode and a subtype indication
abbrev pub declared_ports : Forest Form → List Port
declared_ports nothing = []
declared_ports (more f t p parts next) =
    ports_named (parts_of parts) (mode_of (next_of parts)) (type_mark (next_of (next_of parts))) ++ declared_ports next

-- the ports of an entity, from its parts: the second one is the port clause
abbrev pub entity_ports : Forest Form → List Port
entity_ports parts = declared_ports (parts_of (next_of parts))
