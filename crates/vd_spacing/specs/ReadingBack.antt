-- What it is for laid out tokens to be read as they are written.
use Rattle.std.specs.Prelude.{◌≡◌, ℕ, Bool, true, not, ◌&&◌, List, [], ◌∷◌, ◌++◌, map, Option, Some, None}
use Rattle.vd_forest.specs.Forest.{no_place}
use Rattle.vd_trees.specs.declared.revision.Revision.{Revision}
use Rattle.vd_directives.specs.Lines.{plain_of}
use Rattle.vd_tokens.specs.declared.kinds.Kind.{Kind}
use Rattle.vd_tokens.specs.declared.kinds.Kind.TheVariants.{End}
use Rattle.vd_tokens.specs.Lexemes.{Lexeme}
use Rattle.vd_tokens.specs.Spellings.{IsTextOf}
use Rattle.vd_lex.specs.Pieces.{is_number}
use Rattle.vd_lex.specs.Lexis.{IsTokenList}
use Rattle.vd_lex.specs.Spelled.{fits_apostrophe}
use Rattle.vd_spacing.specs.declared.spacing.TheConstants.{POINT}
use Rattle.vd_spacing.specs.Spacing.{is_mark, is_spaced, Spacing, touching, Laid, laid_bytes}

-- ---- which tokens may stand side by side

-- an apostrophe is read as it is meant, and no point stands behind a number, since with a digit behind it it would make it real
abbrev pub are_neighbours : Option Kind → Kind → Bool
are_neighbours last k = fits_apostrophe last k && not (is_number last && is_mark POINT k)

-- there is a space or a line's end between two tokens that need one
abbrev pub is_apart : Option Kind → Spacing → Kind → Bool
is_apart (Some left) touching right = not (is_spaced left right)
is_apart _ spacing right = true

-- a token that the revision can have, and no end
abbrev pub IsInside : Revision → Kind → List ℕ → Type 0
IsInside r k text = IsTextOf r k text × (k ≡ End → ⊥)

-- these tokens can stand in this way, the first of them behind this one
abbrev pub AreLaid : Revision → Option Kind → List Laid → Type 0
AreLaid r last [] = Unit {0}
AreLaid r last (t ∷ ts) =
    IsInside r t.kind t.text × (are_neighbours last t.kind ≡ true) × (is_apart last t.spacing t.kind ≡ true) × AreLaid r (Some t.kind) ts

-- ---- tokens without their places

abbrev pub placeless : Lexeme → Lexeme
placeless t = record t { place = no_place }

abbrev pub token_of : Laid → Lexeme
token_of t = record { kind = t.kind; text = t.text; place = no_place }

abbrev pub placeless_end : Lexeme
placeless_end = record { kind = End; text = []; place = no_place }

-- ---- the law

-- the bytes of a file are read as these tokens and the end, up to places
pub record ReadsBack (r : Revision) (file : ℕ) (bytes : List ℕ) (tokens : List Lexeme) : Type 0 where
  pub read : List Lexeme
  pub is_list : IsTokenList r (plain_of file bytes) read
  pub same : map placeless read ≡ tokens ++ placeless_end ∷ []

-- however tokens are laid out in which two that need it stand apart, their bytes are read as these tokens
abbrev pub LayoutsReadBack : Type 0
LayoutsReadBack = (r : Revision) (file : ℕ) (ts : List Laid) → AreLaid r None ts → ReadsBack r file (laid_bytes ts) (map token_of ts)
