-- A worked line, `Y <= a;`: what it is read as, so that a reader can hold the definitions against it.
use Rattle.std.specs.Prelude.{ℕ, List, [], ◌∷◌, codes}
use Rattle.vd_trees.specs.declared.revision.Revision.TheVariants.{V2019}
use Rattle.vd_first_lex.specs.declared.tokens.Kind.{Kind}
use Rattle.vd_first_lex.specs.declared.tokens.Kind.TheVariants.{Name, Mark, End}
use Rattle.vd_first_lex.specs.declared.tokens.Token.{Token}
use Rattle.vd_first_lex.specs.Lexis.{place_at, IsTokenList, BreaksAt}
use Rattle.vd_first_lex.specs.Lexings.{plain_of}

-- a token of a file's first line
abbrev pub at_column : ℕ → Kind → List ℕ → Token
at_column column k text = record { kind = k; text = text; place = place_at 0 1 column }

-- a name, the mark `<=`, a name, the mark `;` and the end
abbrev pub ReadsWorkedLine : Type 0
ReadsWorkedLine =
    IsTokenList V2019 (plain_of 0 (codes "Y <= a;"))
    (at_column 1 Name (codes "y") ∷ at_column 3 (Mark 21) [] ∷ at_column 6 Name (codes "a") ∷ at_column 7 (Mark 11) [] ∷ at_column 8 End [] ∷ [])

-- `a__b` breaks at its first underscore
abbrev pub BreaksWorkedLine : Type 0
BreaksWorkedLine = BreaksAt V2019 (plain_of 0 (codes "a__b")) (place_at 0 1 2)
