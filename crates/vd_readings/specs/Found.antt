-- What is found of a list of readings: that it is empty, its only member, or that it has several.
use Rattle.std.specs.Prelude.{◌≡◌, ℕ, ◌≤◌, List, [], ◌∷◌, length}
use Rattle.vd_forest.specs.Forest.{Forest}
use Rattle.vd_forest.specs.Store.{at}
use Rattle.vd_resolved.specs.declared.node.Resolved.{Resolved}
use Rattle.vd_readings.specs.declared.found.Found.{Found}
use Rattle.vd_readings.specs.declared.found.Found.TheVariants.{Nothing, Only, Several}

-- the number stands for the only member of the list
pub record HoldsOnly (store : List (Forest Resolved)) (number : ℕ) (all : List (Forest Resolved)) : Type 0 where
  pub within : number ≤ length store
  pub only : all ≡ at store number ∷ []

abbrev pub IsFound : List (Forest Resolved) → Found → List (Forest Resolved) → Type 0
IsFound store Nothing all = all ≡ []
IsFound store (Only number) all = HoldsOnly store number all
IsFound store Several all = 2 ≤ length all

-- what is found of two lists together
abbrev pub both : Found → Found → Found
both Nothing b = b
both (Only a) Nothing = Only a
both (Only a) (Only b) = Several
both (Only a) Several = Several
both Several b = Several
