-- What holds of every checked table.
use Rattle.std.specs.Prelude.{ℕ, ◌≡◌, ◌<◌, ◌≤◌, IsTrue, List}
use Rattle.vd_gram.specs.declared.tables.Table.{Table}
use Rattle.vd_gram.specs.Claims.{is_checked}
use Rattle.vd_gram.specs.Derivations.{Trees, IsDerivation, yield, places, unplaced, IsParse, IsRefused, IsTooDeep, depth}

-- no two derivations have one yield, up to the places of their leaves
abbrev pub HasOneDerivation : Type 0
HasOneDerivation =
    (t : Table) → IsTrue (is_checked t) → (f g : Trees) → IsDerivation t f → IsDerivation t g → yield f ≡ yield g
    → unplaced f ≡ unplaced g

-- and none with its leaves at the same places
abbrev pub HasOnePlacedDerivation : Type 0
HasOnePlacedDerivation =
    (t : Table) → IsTrue (is_checked t) → (f g : Trees) → IsDerivation t f → IsDerivation t g → yield f ≡ yield g → places f ≡ places g
    → f ≡ g

-- some symbols have one answer alone: one derivation, or one place at which they are refused, or a node too deep
pub record HasOneAnswer (t : Table) (symbols : List ℕ) (deep : ℕ) : Type 0 where
  pub one_parse : (f g : Trees) → IsParse t symbols deep f → IsParse t symbols deep g → f ≡ g
  pub one_place : (i j : ℕ) → IsRefused t symbols deep i → IsRefused t symbols deep j → i ≡ j
  pub parsed_or_refused : (f : Trees) (i : ℕ) → IsParse t symbols deep f → IsRefused t symbols deep i → ⊥
  pub parsed_or_deep : (f : Trees) → IsParse t symbols deep f → IsTooDeep t symbols deep → ⊥
  pub refused_or_deep : (i : ℕ) → IsRefused t symbols deep i → IsTooDeep t symbols deep → ⊥

abbrev pub HasOneAnswerEach : Type 0
HasOneAnswerEach = (t : Table) → IsTrue (is_checked t) → (symbols : List ℕ) (deep : ℕ) → HasOneAnswer t symbols deep

-- a derivation that is answered has no more marked nodes above one another than asked
abbrev pub IsAsShallowAsAsked : Type 0
IsAsShallowAsAsked = (t : Table) (symbols : List ℕ) (deep : ℕ) (f : Trees) → IsParse t symbols deep f → depth t f ≤ deep

-- a text that has a derivation is too deep only where this derivation is
abbrev pub IsDeepWhereDeep : Type 0
IsDeepWhereDeep =
    (t : Table) → IsTrue (is_checked t) → (f : Trees) (deep : ℕ) → IsDerivation t f → IsTooDeep t (yield f) deep → deep < depth t f

-- some symbols have an answer: a derivation, or a place at which they are refused, or a node too deep
pub data HasSomeAnswer (t : Table) (symbols : List ℕ) (deep : ℕ) : Type 0 where
  some_parse : (f : Trees) → IsParse t symbols deep f → HasSomeAnswer t symbols deep
  some_place : (place : ℕ) → IsRefused t symbols deep place → HasSomeAnswer t symbols deep
  too_deep : IsTooDeep t symbols deep → HasSomeAnswer t symbols deep

abbrev pub HasSomeAnswerEach : Type 0
HasSomeAnswerEach = (t : Table) → IsTrue (is_checked t) → (symbols : List ℕ) (deep : ℕ) → HasSomeAnswer t symbols deep
