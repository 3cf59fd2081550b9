-- The value of an expression and what it reads. (IEEE 1076, expressions, operators; sensitivity of a process with `all`.)
use Rattle.std.specs.Prelude.{ℕ, List, [], ◌∷◌, ◌++◌, slice_index_or, if◌then◌else◌}
use Rattle.vd_forest.specs.Forest.{Forest, nothing, more, text_of}
use Rattle.vd_forest.specs.Texts.{with_text}
use Rattle.vd_first_trees.specs.declared.form.Form.{Form}
use Rattle.vd_first_trees.specs.declared.form.Form.TheVariants as form
use Rattle.vd_first_trees.specs.Forms.{same_form}
use Rattle.vd_values.specs.declared.logic.Logic.{Logic}
use Rattle.vd_values.specs.declared.logic.Logic.TheVariants.{X}
use Rattle.vd_values.specs.LogicTables.{and_of, not_of}

-- a node's value, from that of the object that its own text names and those of its parts
abbrev pub node_value : Form → Logic → List Logic → Logic
node_value f own parts =
    if same_form f form.And then and_of (slice_index_or parts 0 X) (slice_index_or parts 1 X)
    else (if same_form f form.Not then not_of (slice_index_or parts 0 X)
    else (if same_form f form.Identifier then own else slice_index_or parts 0 X))

-- the values of some expressions, where names have these values
abbrev pub values : (List ℕ → Logic) → Forest Form → List Logic
values objects nothing = []
values objects (more f t p parts next) = node_value f (objects t) (values objects parts) ∷ values objects next

-- the value of the first of some expressions
abbrev pub value : (List ℕ → Logic) → Forest Form → Logic
value objects expressions = slice_index_or (values objects expressions) 0 X

-- the names of objects that some expressions read, from the left
abbrev pub names_read : Forest Form → List (List ℕ)
names_read nothing = []
names_read (more f t p parts next) = (if same_form f form.Name then text_of parts ∷ [] else names_read parts) ++ names_read next

-- texts, each once, where it comes first; these have come before
abbrev pub each_once : List (List ℕ) → List (List ℕ) → List (List ℕ)
each_once before [] = before
each_once before (t ∷ ts) = each_once (with_text before t) ts
