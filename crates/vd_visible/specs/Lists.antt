-- What can be said of the elements in brackets before they are resolved: which names stand in their associations, whether they give each
-- parameter once, and what `others` stands for. (IEEE 1076, aggregates; function calls)
use Rattle.std.specs.Prelude.{ℕ, suc, ◌==◌, Bool, true, false, ◌&&◌, ◌||◌, not, List, [], ◌∷◌, ◌++◌, length, map, drop, Option, Some, None, option_map, if◌then◌else◌}
use Rattle.std.specs.List.{filter, list_all, list_any}
use Rattle.std.specs.Str.{bytes_eq}
use Rattle.vd_declarations.specs.declared.classes.Class.{Class}
use Rattle.vd_declarations.specs.declared.classes.Class.TheVariants as class
use Rattle.vd_forest.specs.Forest.{Forest, nothing, more, skipped}
use Rattle.vd_forms.specs.declared.form.Form.{Form}
use Rattle.vd_forms.specs.Forms.{is_among, expressions}
use Rattle.vd_forms.specs.Validity.{forms_of, is_one_expression}
use Rattle.vd_states.specs.declared.states.State.{State}
use Rattle.vd_states.specs.declared.states.State.TheVariants as state
use Rattle.vd_states.specs.declared.states.Want.TheVariants as want
use Rattle.vd_visible.specs.declared.kinds.Kind.TheVariants as kind
use Rattle.vd_visible.specs.Kinds.{kind_of}
use Rattle.vd_visible.specs.Sights.{Sight, class_of, mark_of, name_of, parameters_of}
use Rattle.vd_visible.specs.Types.{common_type}

-- ---- names in associations

-- the only tree is an identifier: its text
abbrev pub only_identifier : Forest Form → Option (List ℕ)
only_identifier nothing = None
only_identifier (more form text place parts nothing) = elim (kind_of form) [ kind.Identifier ↦ Some text | _ ↦ None ]
only_identifier (more form text place parts (more form' text' place' parts' next)) = None

-- a name that is one identifier
abbrev pub simple_name : Form → Forest Form → Option (List ℕ)
simple_name form parts = elim (kind_of form) [ kind.Name ↦ only_identifier parts | _ ↦ None ]

-- of each choice the identifier that it is, where it is one
abbrev pub choice_names : Forest Form → List (Option (List ℕ))
choice_names nothing = []
choice_names (more form text place parts next) = simple_name form parts ∷ choice_names next

-- those of an association, whose first part has the choices
abbrev pub names_in : Forest Form → List (Option (List ℕ))
names_in nothing = []
names_in (more form text place parts next) = choice_names parts

abbrev pub only_one : List (Option (List ℕ)) → Option (List ℕ)
only_one [] = None
only_one (name ∷ []) = name
only_one (name ∷ other ∷ names) = None

abbrev pub is_name : List ℕ → Option (List ℕ) → Bool
is_name name None = false
is_name name (Some other) = bytes_eq name other

-- how many expressions stand at the head
abbrev pub positional : Forest Form → ℕ
positional nothing = 0
positional (more form text place parts next) = if is_among expressions form then suc (positional next) else 0

-- ---- calls: expressions for the first parameters, and then an association for each other one

-- the one name in the choices of an association
abbrev pub formal_of : Form → Forest Form → Option (List ℕ)
formal_of form parts = elim (kind_of form) [ kind.Association ↦ only_one (names_in parts) | _ ↦ None ]

-- of each tree, where it is an association with one choice
abbrev pub formals : Forest Form → List (Option (List ℕ))
formals nothing = []
formals (more form text place parts next) = formal_of form parts ∷ formals next

abbrev pub are_given : Sight → List ℕ → List (Option (List ℕ)) → Bool
are_given s parameters names = list_all (λ k. list_any (is_name (name_of s k)) names) parameters

-- as many as there are parameters, and each parameter behind the positional ones is named
abbrev pub fits_call : Sight → List ℕ → Forest Form → Bool
fits_call s parameters parts =
    (length (forms_of parts) == length parameters)
    && are_given s (drop (positional parts) parameters) (formals (skipped (positional parts) parts))

-- ---- aggregates

abbrev pub is_others : Form → Bool
is_others form = elim (kind_of form) [ kind.OthersAssociation ↦ true | _ ↦ false ]

abbrev pub is_association : Form → Bool
is_association form = elim (kind_of form) [ kind.Association ↦ true | _ ↦ false ]

-- no position beside a choice other than `others`
abbrev pub is_unmixed : List Form → Bool
is_unmixed forms =
    list_all (λ form. is_among expressions form || is_others form) forms || list_all (λ form. is_association form || is_others form) forms

-- of all choices the identifiers that they are
abbrev pub chosen_names : Forest Form → List (Option (List ℕ))
chosen_names nothing = []
chosen_names (more form text place parts next) = elim (kind_of form) [ kind.Association ↦ names_in parts | _ ↦ [] ] ++ chosen_names next

-- an element that stands in no choice
abbrev pub is_left : Sight → Forest Form → ℕ → Bool
is_left s parts k = not (list_any (is_name (name_of s k)) (chosen_names parts))

-- the elements of a record type that stand behind the positional ones, and in no choice
abbrev pub left_elements : Sight → ℕ → Forest Form → List ℕ
left_elements s t parts = filter (is_left s parts) (drop (positional parts) (parameters_of s t))

-- the type of what `others` stands for
abbrev pub others_type : Sight → ℕ → Forest Form → Option ℕ
others_type s t parts = common_type (map (mark_of s) (left_elements s t parts))

abbrev pub fields_with : ℕ → ℕ → State
fields_with t u = state.Fields t (Some 0) (Some u)

-- the state of the elements of a record aggregate
abbrev pub fields : Sight → ℕ → Forest Form → Option State
fields s t parts = if list_any is_others (forms_of parts) then option_map (fields_with t) (others_type s t parts) else Some (state.Fields t (Some 0) None)

abbrev pub aggregate_of : Sight → ℕ → Class → Forest Form → Option State
aggregate_of s t (class.ArrayType index element mark) parts = if is_unmixed (forms_of parts) then Some (state.Elements t) else None
aggregate_of s t class.RecordType parts = fields s t parts
aggregate_of s t _ parts = None

-- the state of what stands in the brackets of an aggregate or of a qualified expression: one expression of the type, or elements
abbrev pub in_brackets : Sight → ℕ → Forest Form → Option State
in_brackets s t parts = if is_one_expression parts then Some (state.Only (want.Value t)) else aggregate_of s t (class_of s t) parts

-- ---- choices of record aggregates

abbrev pub is_element : Class → Bool
is_element class.RecordElement = true
is_element _ = false

-- the elements of a record type that a name selects
abbrev pub elements_named : Sight → ℕ → List ℕ → List ℕ
elements_named s t name = filter (λ k. is_element (class_of s k)) (s.selected t name)

abbrev pub first_mark : Sight → List ℕ → Option ℕ
first_mark s [] = None
first_mark s (k ∷ ks) = mark_of s k

abbrev pub chosen_mark : Sight → ℕ → Option (List ℕ) → Option ℕ
chosen_mark s t None = None
chosen_mark s t (Some name) = first_mark s (elements_named s t name)

-- the type of all elements that the choices of an association name
abbrev pub choices_type : Sight → ℕ → Forest Form → Option ℕ
choices_type s t parts = common_type (map (chosen_mark s t) (names_in parts))
