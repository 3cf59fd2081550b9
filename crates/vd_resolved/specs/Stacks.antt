-- Numbers of single trees in a store.
use Rattle.std.specs.Prelude.{◌≡◌, ◌≤◌, ℕ, List, [], ◌∷◌, length}
use Rattle.vd_forest.specs.Forest.{Forest, nothing, with_next}
use Rattle.vd_forest.specs.Store.{at}

-- the number stands for one tree or none, with nothing after it
pub record IsTree {F : Type 0} (store : List (Forest F)) (number : ℕ) : Type 0 where
  pub within : number ≤ length store
  pub alone : with_next (at store number) nothing ≡ at store number

abbrev pub AreTrees : {F : Type 0} → List (Forest F) → List ℕ → Type 0
AreTrees store [] = Unit {0}
AreTrees store (number ∷ numbers) = IsTree store number × AreTrees store numbers
