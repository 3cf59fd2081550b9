-- The tokens of a design, side by side.
use Rattle.std.specs.Prelude.{◌≡◌, ℕ, Bool, true, false, not, ◌&&◌, ◌||◌, ◌==◌, List, [], ◌∷◌, Option, Some, None}
use Rattle.vd_trees.specs.declared.revision.Revision.{Revision}
use Rattle.vd_trees.specs.declared.revision.Revision.TheVariants.{V1993}
use Rattle.vd_tokens.specs.declared.kinds.Kind.{Kind}
use Rattle.vd_tokens.specs.declared.kinds.Kind.TheVariants.{Word}
use Rattle.vd_tokens.specs.declared.kinds.TheConstants.{APOSTROPHE}
use Rattle.vd_tokens.specs.Lexemes.{Lexeme}
use Rattle.vd_forest.specs.Forest.{Forest}
use Rattle.vd_forms.specs.declared.form.Form.{Form}
use Rattle.vd_forms.specs.Validity.{IsDesign}
use Rattle.vd_templates.specs.Templates.{tokens_in, items_of}
use Rattle.vd_spacing.specs.Spacing.{is_mark}
use Rattle.vd_spacing.specs.ReadingBack.{are_neighbours, IsInside}
use Rattle.vd_neighbours.specs.declared.laws.TheConstants.{ALL, RANGE}

-- the words behind which an apostrophe isn't read as the mark, though names of attributes and of objects end with them
abbrev pub is_range_or_all : Kind → Bool
is_range_or_all (Word n) = n == RANGE || n == ALL
is_range_or_all _ = false

-- no apostrophe stands behind one of these words
abbrev pub WordsHaveNoAttribute : List Lexeme → Type 0
WordsHaveNoAttribute [] = Unit {0}
WordsHaveNoAttribute (t ∷ []) = Unit {0}
WordsHaveNoAttribute (t ∷ u ∷ ts) = ((is_range_or_all t.kind && is_mark APOSTROPHE u.kind) ≡ false) × WordsHaveNoAttribute (u ∷ ts)

-- these tokens are possible, and can be read where they stand, the first of them behind this one
abbrev pub StandSideBySide : Revision → Option Kind → List Lexeme → Type 0
StandSideBySide r last [] = Unit {0}
StandSideBySide r last (t ∷ ts) = IsInside r t.kind t.text × (are_neighbours last t.kind ≡ true) × StandSideBySide r (Some t.kind) ts

abbrev pub TokensStandSideBySide : Type 0
TokensStandSideBySide =
    (units : Forest Form) → IsDesign V1993 units → WordsHaveNoAttribute (tokens_in (items_of units)) → StandSideBySide V1993 None (tokens_in (items_of units))
