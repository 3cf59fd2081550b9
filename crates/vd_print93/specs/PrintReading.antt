-- What is printed is read back.
use Rattle.std.specs.Prelude.{ℕ, List}
use Rattle.vd_trees.specs.declared.revision.Revision.TheVariants.{V1993}
use Rattle.vd_directives.specs.Lines.{plain_of}
use Rattle.vd_tokens.specs.Lexemes.{Lexeme}
use Rattle.vd_forest.specs.Forest.{Forest}
use Rattle.vd_forms.specs.declared.form.Form.{Form}
use Rattle.vd_templates.specs.Templates.{tokens_in, items_of}
use Rattle.vd_lex.specs.Lexis.{IsTokenList}
use Rattle.vd_spacing.specs.ReadingBack.{ReadsBack}
use Rattle.vd_neighbours.specs.Neighbours.{WordsHaveNoAttribute}
use Rattle.vd_derivations93.specs.Laws.{IsReadBack}

-- no apostrophe stands behind the words `range` and `all` in the tokens of the units
abbrev pub CanBePrinted : Forest Form → Type 0
CanBePrinted units = WordsHaveNoAttribute (tokens_in (items_of units))

-- then the bytes are read by the lexis of 1993 as the tokens of the units and the end, up to places
abbrev pub PrintReadsBack : Forest Form → List ℕ → Type 0
PrintReadsBack units bytes = (file : ℕ) → CanBePrinted units → ReadsBack V1993 file bytes (tokens_in (items_of units))

-- and what is read of the tokens of the bytes is the design of these units
abbrev pub PrintIsOfDesign : Forest Form → List ℕ → Type 0
PrintIsOfDesign units bytes = (file : ℕ) (tokens : List Lexeme) → CanBePrinted units → IsTokenList V1993 (plain_of file bytes) tokens → IsReadBack units tokens
