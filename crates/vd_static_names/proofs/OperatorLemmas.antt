-- Operators with no operand, or with more than two.
use Rattle.std.proofs.Common.{◌≡◌, ◌≢◌, ◌∷◌, List, Option, [], ap, false, length, map, refl, ℕ, ◌∙◌}
use Rattle.vd_meaning.specs.Operators.{Symbol, is_local_of}
use Rattle.vd_meaning.specs.Tables.{Table}

module _ (t : Table) (s : Symbol) (f : ℕ → Option ℕ) where
  other_count : (ps : List ℕ) → length ps ≢ 1 → length ps ≢ 2 → false ≡ is_local_of t s (map f ps)
  other_count [] one two = refl
  other_count (p ∷ []) one two = absurd (one refl)
  other_count (p ∷ q ∷ []) one two = absurd (two refl)
  other_count (p ∷ q ∷ o ∷ ps) one two = refl

  pub other_operands : (qs ps : List ℕ) → qs ≡ ps → length qs ≢ 1 → length qs ≢ 2 → false ≡ is_local_of t s (map f ps)
  other_operands qs ps is one two = other_count qs one two ∙ ap (λ xs. is_local_of t s (map f xs)) is
