-- Resolved trees that are written out by hand, and the declarations round them.
use Rattle.std.specs.Prelude.{ℕ, suc, ◌+◌, ◌==◌, ◌&&◌, pos, Bool, true, false, List, [], ◌∷◌, ◌++◌, map, length, Option, Some, None, bytes_eq, codes, if◌then◌else◌}
use Rattle.vd_trees.specs.declared.revision.Revision.TheVariants.{V2019}
use Rattle.vd_declarations.specs.declared.classes.Class.{Class}
use Rattle.vd_declarations.specs.declared.declarations.Declaration.{Declaration}
use Rattle.vd_forest.specs.Forest.{Forest, nothing, more, no_place}
use Rattle.vd_forms.specs.declared.form.Form.{Form}
use Rattle.vd_forms.specs.declared.form.Form.TheVariants as form
use Rattle.vd_resolved.specs.declared.node.Resolved.{Resolved}
use Rattle.vd_resolved.specs.Trees.{side_by_side}
use Rattle.vd_predefined.specs.Given.{given_scopes}
use Rattle.vd_predefined.specs.Entries.{declared}
use Rattle.vd_predefined.specs.Lines.{quoted}
use Rattle.vd_meaning.specs.Tables.{table, same_type, no_declaration}
use Rattle.vd_meaning.specs.Facets.{Meaning, nth}
use Rattle.vd_meaning.specs.Meanings.{meanings}

-- ---- nodes

abbrev pub node : Form → Option ℕ → Option ℕ → ℕ → List ℕ → List (Forest Resolved) → Forest Resolved
node f d m position text parts =
    more (record { form = f; declaration = d; mark = m; position = position }) text no_place (side_by_side parts) nothing

-- a node that names nothing
abbrev pub plain : Form → List (Forest Resolved) → Forest Resolved
plain f parts = node f None None 0 [] parts

abbrev pub absent : Forest Resolved
absent = plain form.Absent []

-- an expression of a type
abbrev pub of : Form → ℕ → List (Forest Resolved) → Forest Resolved
of f mark parts = node f None (Some mark) 0 [] parts

abbrev pub leaf : Form → List ℕ → Forest Resolved
leaf f text = node f None None 0 text []

-- ---- declarations: those that are given, and then these

abbrev pub all_declarations : List Declaration → List Declaration
all_declarations own = map (λ x. x.declaration) (given_scopes V2019).entered ++ own

-- the number of the first of these
abbrev pub own : ℕ → ℕ
own n = 463 + n

abbrev pub object : Class → ℕ → Declaration
object c mark = declared c [] (Some mark) []

-- the number of an operator with two operands of these types, or one; or of a function
abbrev pub has_types : List (Option ℕ) → List ℕ → Bool
has_types [] [] = true
has_types (m ∷ ms) (t ∷ ts) = same_type m (Some t) && has_types ms ts
has_types _ _ = false

abbrev pub marks_of : List Declaration → List ℕ → List (Option ℕ)
marks_of ds ps = map (λ p. (Rattle.std.specs.Prelude.slice_index_or ds p no_declaration).mark) ps

abbrev pub is_operator : List Declaration → List ℕ → List ℕ → Declaration → Bool
is_operator ds name types d = bytes_eq d.name name && has_types (marks_of ds d.parameters) types

abbrev pub number_from : List Declaration → List ℕ → List ℕ → ℕ → List Declaration → ℕ
number_from all name types n [] = 0
number_from all name types n (d ∷ ds) = if is_operator all name types d then n else number_from all name types (suc n) ds

abbrev pub number_of : List ℕ → List ℕ → ℕ
number_of name types = number_from (all_declarations []) name types 0 (all_declarations [])

-- an operator, on operands of these types, with a result of a type
abbrev pub operator : Form → List ℕ → List ℕ → ℕ → List (Forest Resolved) → Forest Resolved
operator f symbol types mark parts = node f (Some (number_of (quoted symbol) types)) (Some mark) 0 [] parts

-- ---- expressions

abbrev pub number : List ℕ → Forest Resolved
number digits = node form.Number None (Some Rattle.vd_predefined.specs.declared.numbers.TheConstants.INTEGER) 0 digits []

abbrev pub letter : ℕ → ℕ → ℕ → Forest Resolved
letter mark position character = node form.Letter None (Some mark) position (character ∷ []) []

abbrev pub quotes : ℕ → List ℕ → Forest Resolved
quotes mark text = node form.Quoted None (Some mark) 0 text []

-- a name of an object, and further pieces of it with the type of the whole
abbrev pub first : ℕ → ℕ → Forest Resolved
first d mark = node form.Identifier (Some d) (Some mark) 0 [] []

abbrev pub name : ℕ → ℕ → Forest Resolved
name d mark = of form.Name mark (first d mark ∷ [])

abbrev pub longer : ℕ → List (Forest Resolved) → Forest Resolved
longer mark pieces = of form.Name mark pieces

abbrev pub arguments : ℕ → List (Forest Resolved) → Forest Resolved
arguments mark parts = of form.Arguments mark parts

abbrev pub attribute : ℕ → List ℕ → Forest Resolved
attribute mark text = node form.Attribute None (Some mark) 0 [] (leaf form.Identifier text ∷ [])

-- a first piece that is a type or subtype
abbrev pub mark_piece : ℕ → Forest Resolved
mark_piece d = node form.Identifier (Some d) None 0 [] []

abbrev pub downto : ℕ → Forest Resolved → Forest Resolved → Forest Resolved
downto mark l r = of form.Descending mark (l ∷ r ∷ [])

abbrev pub upto : ℕ → Forest Resolved → Forest Resolved → Forest Resolved
upto mark l r = of form.Ascending mark (l ∷ r ∷ [])

-- `choice => value`
abbrev pub associated : Forest Resolved → Forest Resolved → Forest Resolved
associated choice value = plain form.Association (plain form.AssociationChoices (choice ∷ []) ∷ value ∷ [])

abbrev pub others : Forest Resolved → Forest Resolved
others value = plain form.OthersAssociation (value ∷ [])

-- ---- what a tree means beside the given declarations and these

abbrev pub meaning : List Declaration → Forest Resolved → Meaning
meaning ds f = nth 0 (meanings (table V2019 (all_declarations ds)) f)
