-- A token's bytes are read as that one token.
use Rattle.std.specs.Prelude.{◌≡◌, ℕ, ◌+◌, Bool, true, not, ◌||◌, ◌==◌, List, [], ◌∷◌, length, Option}
use Rattle.vd_trees.specs.declared.revision.Revision.{Revision}
use Rattle.vd_directives.specs.declared.selected.Selected.{Selected}
use Rattle.vd_directives.specs.Lines.{place_at}
use Rattle.vd_tokens.specs.declared.kinds.Kind.{Kind}
use Rattle.vd_tokens.specs.declared.kinds.Kind.TheVariants.{Letter, Mark, End}
use Rattle.vd_tokens.specs.Lexemes.{Lexeme}
use Rattle.vd_tokens.specs.Spellings.{spelling_of, IsTextOf}
use Rattle.vd_lex.specs.Items.{has_attribute}
use Rattle.vd_lex.specs.Lexis.{IsTokenList}

-- a text of one line
abbrev pub one_line : List ℕ → Selected
one_line bytes = record { file = 0; lines = record { number = 1; bytes = bytes } ∷ []; warnings = [] }

abbrev pub at_column : ℕ → Kind → List ℕ → Lexeme
at_column column k text = record { kind = k; text = text; place = place_at 0 1 column }

-- an apostrophe is the mark behind a name, a ')', a letter or a text in marks, and begins a letter anywhere else
abbrev pub fits_apostrophe : Option Kind → Kind → Bool
fits_apostrophe last (Mark n) = not (n == 1) || has_attribute last
fits_apostrophe last Letter = not (has_attribute last)
fits_apostrophe last _ = true

-- the bytes of a token that the revision can have, but the end and the apostrophe, are read as this token and the end
abbrev pub ReadsSpellings : Type 0
ReadsSpellings =
    (r : Revision) (k : Kind) (text : List ℕ) → IsTextOf r k text → (k ≡ End → ⊥) → (k ≡ Mark 1 → ⊥)
    → IsTokenList r (one_line (spelling_of k text)) (at_column 1 k text ∷ at_column (length (spelling_of k text) + 1) End [] ∷ [])
