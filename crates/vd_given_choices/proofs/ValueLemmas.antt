-- The values of a range, one by one.
use Rattle.std.proofs.Common.{◌≡◌, ◌∷◌, ◌++◌, ◌+◌, ◌-◌, ◌<◌, ◌≤◌, Bool, List, [], ap, arith, false, map, suc, sym, true, ℕ, ℤ, ◌∙◌}
use Rattle.std.proofs.lemmas.Int.{ints}
use Rattle.vd_composites.specs.Composites.{One, Value}
use Rattle.vd_composites.specs.Ranges.{index_at, length_of, steps_on, values_from}
use Rattle.vd_composites.specs.Scalars.{scalar_at}
use Rattle.vd_composites.specs.declared.ranges.Bounds.{Bounds}
use Rattle.vd_composites.specs.declared.scalars.ScalarType.{ScalarType}
use Rattle.vd_given_choices.proofs.ChoiceLemmas.{none_behind, one_more}
use Rattle.vd_meaning.specs.Statements.{range_values}
use Rattle.vd_values.specs.declared.scalar.Scalar.{Scalar}

one_step : (down : Bool) (l : ℤ) (k : ℕ) → steps_on down (steps_on down l k) 1 ≡ steps_on down l (k + 1)
one_step true l k = omega (arith, ints)
one_step false l k = omega (arith, ints)

module _ (t : ScalarType) (b : Bounds) where
  -- those from a place on
  abbrev pub values_behind : ℕ → List (Value Scalar)
  values_behind k = map (λ i. One (scalar_at t i)) (values_from (length_of b - k) (index_at b k) b.down)

  value_first : (k : ℕ) → k < length_of b → values_behind k ≡ One (scalar_at t (index_at b k)) ∷ values_behind (k + 1)
  value_first k below =
      let left : length_of b - k ≡ suc (length_of b - (k + 1)) = omega (arith, below) in
      ap (λ n. map (λ i. One (scalar_at t i)) (values_from n (index_at b k) b.down)) left
      ∙ ap (λ l. One (scalar_at t (index_at b k)) ∷ map (λ i. One (scalar_at t i)) (values_from (length_of b - (k + 1)) l b.down)) (one_step b.down b.left k)

  pub value_more : (k : ℕ) (vs now : List (Value Scalar)) (v : Value Scalar) → k < length_of b → v ≡ One (scalar_at t (index_at b k)) → now ≡ vs ++ v ∷ []
      → vs ++ values_behind k ≡ range_values t b → now ++ values_behind (k + 1) ≡ range_values t b
  value_more k vs now v below is pushed so_far =
      ap (λ l. l ++ values_behind (k + 1)) pushed ∙ one_more vs (values_behind (k + 1)) v ∙ ap (λ w. vs ++ w ∷ values_behind (k + 1)) is
      ∙ ap (λ l. vs ++ l) (sym (value_first k below)) ∙ so_far
