-- `process (all)` is written with the list of its read set: the longest static prefixes of the signal names that occur
-- as values, which in the first language are the names themselves, in the order of their first reading, each once. A
-- target does not count. (IEEE 1076, process statement, sensitivity.)
use Rattle.std.specs.Prelude.{ℕ, Bool, true, false, List, [], if◌then◌else◌}
use Rattle.std.specs.List.{list_any}
use Rattle.std.specs.Str.{bytes_eq}
use Rattle.vd_bytes.specs.declared.places.Place.{Place}
use Rattle.vd_forest.specs.Forest.{Forest, nothing, more, text_of, next_of, joined}
use Rattle.vd_forest.specs.Texts.{with_text}
use Rattle.vd_first_trees.specs.declared.form.Form.{Form}
use Rattle.vd_first_trees.specs.declared.form.Form.TheVariants as form
use Rattle.vd_first_trees.specs.Forms.{same_form}

-- the names of some expressions, in order
abbrev pub names_in : Forest Form → Forest Form
names_in nothing = nothing
names_in (more f t p parts next) = joined (if same_form f form.Name then more f t p parts nothing else names_in parts) (names_in next)

-- those of one expression
abbrev pub tree_names : Form → List ℕ → Place → Forest Form → Forest Form
tree_names f t p parts = if same_form f form.Name then more f t p parts nothing else names_in parts

-- the names that some statements read, in order: those of the value of each assignment
abbrev pub read_names : Forest Form → Forest Form
read_names nothing = nothing
read_names (more f t p parts next) = joined (names_in (next_of parts)) (read_names next)

abbrev pub is_among : List (List ℕ) → List ℕ → Bool
is_among texts text = list_any (bytes_eq text) texts

-- a tree before others, or these alone
abbrev pub unless : Bool → Form → List ℕ → Place → Forest Form → Forest Form → Forest Form
unless true f t p parts rest = rest
unless false f t p parts rest = more f t p parts rest

-- each name once, where it comes first; some have come before
abbrev pub firsts : List (List ℕ) → Forest Form → Forest Form
firsts before nothing = nothing
firsts before (more f t p parts next) =
    unless (is_among before (text_of parts)) f t p parts (firsts (with_text before (text_of parts)) next)

-- the names that have come after these
abbrev pub names_after : List (List ℕ) → Forest Form → List (List ℕ)
names_after before nothing = before
names_after before (more f t p parts next) = names_after (with_text before (text_of parts)) next

abbrev pub read_set : Forest Form → Forest Form
read_set statements = firsts [] (read_names statements)

-- the parts of a process, `all` being replaced by the list
abbrev pub listed : Forest Form → Forest Form
listed nothing = nothing
listed (more f t p parts next) =
    if same_form f form.All then more form.SensitivityList [] p (read_set (next_of next)) next else more f t p parts next

abbrev pub lowered : Forest Form → Forest Form
lowered nothing = nothing
lowered (more f t p parts next) =
    if same_form f form.ProcessStatement then more f t p (listed parts) (lowered next) else more f t p (lowered parts) (lowered next)
