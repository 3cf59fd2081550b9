-- Texts of revision 1993 in which no rule is broken. This is about bytes, and not about a tree that was held when they were made.
use Rattle.std.specs.Prelude.{◌≡◌, ℕ, List}
use Rattle.vd_accepting.specs.Phases.{IsAccepted}
use Rattle.vd_directives.specs.Lines.{plain_of}
use Rattle.vd_forest.specs.Forest.{Forest}
use Rattle.vd_forms.specs.declared.form.Form.{Form}
use Rattle.vd_grammar93.specs.Grammar.{grammar, actions}
use Rattle.vd_lex.specs.Lexis.{IsTokenList}
use Rattle.vd_print93.specs.Layout.{layout_of}
use Rattle.vd_tokens.specs.Lexemes.{Lexeme}
use Rattle.vd_trees.specs.declared.revision.Revision.TheVariants.{V1993}
use Rattle.vd_valid_shapes.specs.Laws.{IsShapeOf}

-- the lexis and the grammar of revision 1993 read bytes as these units, however deep expressions and statements stand in one another
pub record IsRead (text : List ℕ) (units : Forest Form) : Type 0 where
  pub tokens : List Lexeme
  pub is_list : IsTokenList V1993 (plain_of 0 text) tokens
  pub is_shape : IsShapeOf grammar actions tokens 4294967295 units

-- so they are read, the units break no rule of revision 1993, and the bytes are the layout of the units
pub record IsIn93 (text : List ℕ) : Type 0 where
  pub units : Forest Form
  pub read : IsRead text units
  pub accepted : IsAccepted V1993 units
  pub laid_out : text ≡ layout_of units
