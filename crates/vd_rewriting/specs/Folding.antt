-- Meanings of trees, from the leaves on.
use Rattle.std.specs.Prelude.{◌≡◌, ℕ, ◌<◌, ◌+◌, List, [], ◌∷◌, length, slice_index_or}
use Rattle.vd_bytes.specs.declared.places.Place.{Place}
use Rattle.vd_forest.specs.Forest.{Forest, nothing, more, next_of}
use Rattle.vd_forest.specs.Store.{at}

-- A meaning: that of a node from its form, its text, its place and the meanings of its parts.
abbrev pub Meaning : Type 0 → Type 0 → Type 0
Meaning F M = F → List ℕ → Place → List M → M

-- the meanings of the trees of a forest
abbrev pub folded : {F M : Type 0} → Meaning F M → Forest F → List M
folded meaning nothing = []
folded meaning (more form text place parts next) = meaning form text place (folded meaning parts) ∷ folded meaning next

-- the meaning of a node doesn't hang on where it stands
abbrev pub IsBlind : {F M : Type 0} → Meaning F M → Type 0
IsBlind {F} {M} meaning =
    (form : F) (text : List ℕ) (place place' : Place) (parts : List M) → meaning form text place parts ≡ meaning form text place' parts

-- the table has the meaning of the first tree of each of a store's numbers, from the number 1 on
pub record AreMeanings {F M : Type 0} (meaning : Meaning F M) (forests : List (Forest F)) (table : List M) : Type 0 where
  pub each : (n : ℕ) (m : M) → n < length table
      → folded meaning (at forests (n + 1)) ≡ slice_index_or table n m ∷ folded meaning (next_of (at forests (n + 1)))
