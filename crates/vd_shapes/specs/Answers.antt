-- What making trees answers.
use Rattle.std.specs.Prelude.{ℕ, List}
use Rattle.vd_tokens.specs.Lexemes.{Lexeme}
use Rattle.vd_gram.specs.declared.tables.Table.{Table}
use Rattle.vd_gram.specs.Derivations.{Trees, IsParse}
use Rattle.vd_forest.specs.Store.{Holds}
use Rattle.vd_shapes.specs.declared.actions.Action.{Action}
use Rattle.vd_shapes.specs.declared.shaping.Shaped.{Shaped}
use Rattle.vd_shapes.specs.Shapes.{shape}

-- the shape of the symbols' derivation
pub record IsShaped (t : Table) (actions : List Action) (tokens : List Lexeme) (symbols : List ℕ) (deep : ℕ) (shaped : Shaped) : Type 0 where
  pub tree : Trees
  pub parse : IsParse t symbols deep tree
  pub holds : Holds shaped.store shaped.number (shape actions tokens tree)
