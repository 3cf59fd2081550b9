-- The grammar of revision 2019: the rows that stand in the code, as a table.
use Rattle.std.specs.Prelude.{◌≡◌, List}
use Rattle.vd_tokens.specs.Lexemes.{Lexeme}
use Rattle.vd_gram.specs.declared.tables.Table.{Table}
use Rattle.vd_gram.specs.Laws.{HasOneAnswer, HasSomeAnswer}
use Rattle.vd_gram.specs.Same.{listed}
use Rattle.vd_shapes.specs.declared.actions.Action.{Action}
use Rattle.vd_shapes.specs.declared.rows.Lists.{Lists}
use Rattle.vd_shapes.specs.Reading.{symbols_in}
use Rattle.vd_shapes.specs.Rows.{table_of}
use Rattle.vd_grammar19.specs.declared.rows.TheConstants.{ROWS, ACTIONS, MARKED}
use Rattle.vd_grammar19.specs.declared.claims.TheConstants.{CLAIMS, EMPTIES}
use Rattle.vd_grammar19.specs.declared.nonterminals.TheConstants.{N_FILE}

-- the rows and claims that stand in the code
abbrev pub lists : Lists
lists = record {
  terminals = 151;
  start = N_FILE;
  marked = listed MARKED.now;
  rows = listed ROWS.now;
  claims = listed CLAIMS.now;
  empties = listed EMPTIES.now;
}

abbrev pub grammar : Table
grammar = table_of lists

-- what each production does with trees
abbrev pub actions : List Action
actions = ACTIONS.now

pub record AreTheLists (given : Lists) : Type 0 where
  pub terminals : given.terminals ≡ lists.terminals
  pub start : given.start ≡ lists.start
  pub marked : given.marked.now ≡ lists.marked.now
  pub rows : given.rows.now ≡ lists.rows.now
  pub claims : given.claims.now ≡ lists.claims.now
  pub empties : given.empties.now ≡ lists.empties.now

-- a token list has one derivation, or one place at which it is refused, or a node too deep
abbrev pub HasOneReading : Type 0
HasOneReading =
    (tokens : List Lexeme) → HasOneAnswer grammar (symbols_in tokens) 200 × HasSomeAnswer grammar (symbols_in tokens) 200
