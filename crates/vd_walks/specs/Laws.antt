-- What the least refusal of a forest is among all of them, and of forests that are joined.
use Rattle.std.specs.Prelude.{◌≡◌, ℕ, false, List, Contains, All}
use Rattle.vd_bytes.specs.declared.places.Place.{Place}
use Rattle.vd_bytes.specs.declared.answers.Refused.{Refused}
use Rattle.vd_forest.specs.Forest.{Forest, nothing, more}
use Rattle.vd_walks.specs.Least.{Judge, is_less}

-- one of the refusals, and none of them is less
pub record IsLeast (all : List Refused) (r : Refused) : Type 0 where
  pub is_one : Contains all r
  pub none_less : All (λ other. is_less other r ≡ false) all

-- the state behind the trees of a forest
abbrev pub behind : {F S : Type 0} → Judge F S → S → Forest F → S
behind judge state nothing = state
behind judge state (more form text place parts next) = behind judge (judge.along state form text place parts) next

-- each tree has the state of the one before
pub record KeepsState {F S : Type 0} (judge : Judge F S) : Type 0 where
  pub keeps : (state : S) (form : F) (text : List ℕ) (place : Place) (parts : Forest F) → judge.along state form text place parts ≡ state
