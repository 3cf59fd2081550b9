-- What the steps of a reader do.
use Rattle.std.specs.Prelude.{ℕ, ◌+◌, ◌≤◌, ◌≡◌, max, List, ◌++◌, length, Some, slice_get, slice_index_or, if◌then◌else◌}
use Rattle.vd_gram.specs.declared.tables.Production.{Production}
use Rattle.vd_gram.specs.declared.tables.Table.{Table}
use Rattle.vd_gram.specs.declared.tables.ParseEnd.{ParseEnd}
use Rattle.vd_gram.specs.declared.tables.ParseEnd.TheVariants.{At, TooDeep, Memory}
use Rattle.vd_gram.specs.declared.stack.Pending.{Pending}
use Rattle.vd_gram.specs.declared.steps.Step.{Step}
use Rattle.vd_gram.specs.declared.reading.Reading.{Reading}
use Rattle.vd_gram.specs.Claims.{has, end_symbol}
use Rattle.vd_gram.specs.Derivations.{Trees, with_end, IsParse, IsRefused, IsTooDeep}
use Rattle.vd_gram.specs.Pending.{at_depth}
use Rattle.vd_gram.specs.Runs.{IsChoice, IsReading, IsShallow, AreChoices, steps_of}

-- 1 for a marked nonterminal, and 0 for another
abbrev pub mark_one : Table → ℕ → ℕ
mark_one t left = if has t.marked.now left then 1 else 0

abbrev pub symbol_ahead : List ℕ → ℕ → ℕ
symbol_ahead symbols place = slice_index_or symbols place end_symbol

-- a production with so many parts was put in the place of its left
pub record IsPut (t : Table) (production parts depth : ℕ) (before after : Reading) : Type 0 where
  pub of : Production
  pub at : slice_get t.productions.now production ≡ Some of
  pub parts_are : parts ≡ length of.right.now
  pub stack : after.stack ≡ at_depth (depth + mark_one t of.left) of.right.now ++ before.stack
  pub deepest : after.deepest ≡ max before.deepest (depth + mark_one t of.left)

-- the production that the symbol ahead tells was put in the place of a nonterminal
pub record IsExpanded (t : Table) (ahead : ℕ) (next : Pending) (production parts : ℕ) (before after : Reading) : Type 0 where
  pub choice : IsChoice t next.symbol ahead production
  pub put : IsPut t production parts next.depth before after

-- the symbols in front of a place were taken, by these steps, and nothing was too deep
pub record Stands (t : Table) (symbols : List ℕ) (deep place : ℕ) (steps : List Step) (r : Reading) : Type 0 where
  pub within : place ≤ length symbols
  pub low : r.deepest ≤ deep
  pub choices : AreChoices t r.choices.known
  pub reading : IsReading t (with_end symbols) place place r.stack steps r.deepest
  pub shallow : IsShallow t (with_end symbols) place deep

-- the symbols in front of a place were taken, by these steps, nothing was too deep in front of it, and the symbol there was
-- looked at. The symbols to come are `pending`
pub record IsAhead (t : Table) (symbols : List ℕ) (deep place : ℕ) (pending : List Pending) (steps : List Step) (r : Reading) : Type 0 where
  pub within : place ≤ length symbols
  pub choices : AreChoices t r.choices.known
  pub reading : IsReading t (with_end symbols) place (place + 1) pending steps r.deepest
  pub shallow : IsShallow t (with_end symbols) place deep

-- ---- with a builder, which was told the steps

pub record IsStanding {B : Type 0} (HasTaken : B → List Step → Type 0) (builder : B) (t : Table) (symbols : List ℕ) (deep place : ℕ) (r : Reading) : Type 0 where
  pub steps : List Step
  pub taken : HasTaken builder steps
  pub stands : Stands t symbols deep place steps r

pub record IsLooking {B : Type 0} (HasTaken : B → List Step → Type 0) (builder : B) (t : Table) (symbols : List ℕ) (deep place : ℕ) (pending : List Pending) (r : Reading) : Type 0 where
  pub steps : List Step
  pub taken : HasTaken builder steps
  pub ahead : IsAhead t symbols deep place pending steps r

-- all was read: the builder was told the steps of the derivation
pub record IsTold {B : Type 0} (HasTaken : B → List Step → Type 0) (builder : B) (t : Table) (symbols : List ℕ) (deep : ℕ) : Type 0 where
  pub tree : Trees
  pub parse : IsParse t symbols deep tree
  pub taken : HasTaken builder (steps_of tree)

-- why there is no derivation. Want of memory says nothing of the symbols
abbrev pub IsEnd : Table → List ℕ → ℕ → ParseEnd → Type 0
IsEnd t symbols deep (At place) = IsRefused t symbols deep place
IsEnd t symbols deep TooDeep = IsTooDeep t symbols deep
IsEnd t symbols deep Memory = Unit {0}
