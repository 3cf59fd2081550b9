-- The bytes of a token.
use Rattle.std.specs.Prelude.{ℕ, List, [], slice_index_or}
use Rattle.vd_trees.specs.declared.revision.Revision.TheVariants.{V2019}
use Rattle.vd_trees.specs.Words.{reserved_words}
use Rattle.vd_first_lex.specs.declared.tokens.Kind.{Kind}
use Rattle.vd_first_lex.specs.declared.tokens.Kind.TheVariants.{Name, Word, Mark}
use Rattle.vd_first_lex.specs.Lexis.{marks}

-- the bytes of a token, names in lower case
abbrev pub spelling_of : Kind → List ℕ → List ℕ
spelling_of Name text = text
spelling_of (Word n) text = slice_index_or (reserved_words V2019) n []
spelling_of (Mark n) text = slice_index_or marks n []
spelling_of _ text = []
