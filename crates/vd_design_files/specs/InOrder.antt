-- Things in a list, each of which has something or ends.
use Rattle.std.specs.Prelude.{◌⊎◌, List, [], ◌∷◌}

-- each of some things has one of some others, in order
abbrev pub HaveEach : {A B : Type 0} → (A → B → Type 0) → List A → List B → Type 0
HaveEach Has [] [] = Unit {0}
HaveEach Has (x ∷ xs) (y ∷ ys) = Has x y × HaveEach Has xs ys
HaveEach Has _ _ = ⊥

-- the first that ends: all in front of it have something
abbrev pub IsFirstEnd : {A B C : Type 0} → (A → B → Type 0) → (A → C → Type 0) → List A → C → Type 0
IsFirstEnd Has Ends [] z = ⊥
IsFirstEnd {A} {B} {C} Has Ends (x ∷ xs) z = Ends x z ⊎ ((y : B) × Has x y × IsFirstEnd Has Ends xs z)
