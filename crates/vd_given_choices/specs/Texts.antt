-- Texts of elements as lists of numbers that count from the least value on.
use Rattle.std.specs.Prelude.{◌≡◌, ◌∷◌, ◌+ℤ◌, List, [], pos, ℕ, ℤ}
use Rattle.vd_given_choices.specs.Covering.{middle}

abbrev pub IsCounted : List ℕ → List ℤ → Type 0
IsCounted [] [] = Unit {0}
IsCounted (n ∷ ns) (i ∷ is) = (pos n ≡ i +ℤ pos middle) × IsCounted ns is
IsCounted _ _ = ⊥

abbrev pub AreCounted : List (List ℕ) → List (List ℤ) → Type 0
AreCounted [] [] = Unit {0}
AreCounted (t ∷ ts) (u ∷ us) = IsCounted t u × AreCounted ts us
AreCounted _ _ = ⊥
