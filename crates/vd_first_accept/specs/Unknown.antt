-- The first name of a tree that is no port.
use Rattle.std.specs.Prelude.{ℕ, Option, Some, None, List, [], ◌∷◌, ◌++◌, if◌then◌else◌}
use Rattle.vd_bytes.specs.declared.places.Place.{Place}
use Rattle.vd_forest.specs.Forest.{Forest, nothing, more, text_of}
use Rattle.vd_forest.specs.Texts.{with_text}
use Rattle.vd_first_trees.specs.declared.form.Form.{Form}
use Rattle.vd_first_trees.specs.declared.form.Form.TheVariants as form
use Rattle.vd_first_trees.specs.Forms.{same_form}
use Rattle.vd_first_passes.specs.Lowering.{names_in, is_among}

-- the texts of some leaves
abbrev pub texts_in : Forest Form → List (List ℕ)
texts_in nothing = []
texts_in (more f t p parts next) = t ∷ texts_in next

-- the identifiers of the lists in some trees: those of the ports, as no other list of identifiers is a node
abbrev pub listed_names : Forest Form → List (List ℕ)
listed_names nothing = []
listed_names (more f t p parts next) = (if same_form f form.IdentifierList then texts_in parts else listed_names parts) ++ listed_names next

-- those of one tree
abbrev pub tree_listed : Form → Forest Form → List (List ℕ)
tree_listed f parts = if same_form f form.IdentifierList then texts_in parts else listed_names parts

-- texts, each once
abbrev pub with_all : List (List ℕ) → List (List ℕ) → List (List ℕ)
with_all texts [] = texts
with_all texts (t ∷ ts) = with_all (with_text texts t) ts

-- the first of some names that is not among these, by its place
abbrev pub first_outside : List (List ℕ) → Forest Form → Option Place
first_outside known nothing = None
first_outside known (more f t p parts next) = if is_among known (text_of parts) then first_outside known next else Some p

-- the first name of some design units that is no port
abbrev pub first_unknown : Forest Form → Option Place
first_unknown units = first_outside (with_all [] (listed_names units)) (names_in units)
