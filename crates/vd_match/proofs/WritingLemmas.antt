-- Operators by how many operands they have.
use Rattle.std.proofs.Common.{◌≡◌, ◌≢◌, ℕ, List, [], ◌∷◌, length, get_or, map, Option, refl, ap, ◌∙◌, arith}
use Rattle.vd_meaning.specs.Operators.{Symbol}
use Rattle.vd_meaning.specs.Tables.{Sort, Table, sort_of}
use Rattle.vd_match.specs.Writings.{by_one, by_operands, by_two}
use Rattle.vd_match.specs.declared.writings.Writing.TheVariants as writing

pub two_same : (s s' : Symbol) (l l' r r' : Sort) → s ≡ s' → l ≡ l' → r ≡ r' → by_two s l r ≡ by_two s' l' r'
two_same s s' l l' r r' named left right = ap (λ z. by_two z l r) named ∙ ap (λ z. by_two s' z r) left ∙ ap (by_two s' l') right

module _ (t : Table) (s : Symbol) (f : ℕ → Option ℕ) where
  one_count : (x : ℕ) (ps : List ℕ) → length ps ≡ 1 → by_one s (sort_of t (f (get_or ps 0 x))) ≡ by_operands t s (map f ps)
  one_count x [] one = absurd (omega (arith, one))
  one_count x (p ∷ []) one = refl
  one_count x (p ∷ q ∷ ps) one = absurd (omega (arith, one))

  two_count : (x y : ℕ) (ps : List ℕ) → length ps ≡ 2
      → by_two s (sort_of t (f (get_or ps 0 x))) (sort_of t (f (get_or ps 1 y))) ≡ by_operands t s (map f ps)
  two_count x y [] two = absurd (omega (arith, two))
  two_count x y (p ∷ []) two = absurd (omega (arith, two))
  two_count x y (p ∷ q ∷ []) two = refl
  two_count x y (p ∷ q ∷ o ∷ ps) two = absurd (omega (arith, two))

  other_count : (ps : List ℕ) → length ps ≢ 1 → length ps ≢ 2 → writing.Kept ≡ by_operands t s (map f ps)
  other_count [] one two = refl
  other_count (p ∷ []) one two = absurd (one refl)
  other_count (p ∷ q ∷ []) one two = absurd (two refl)
  other_count (p ∷ q ∷ o ∷ ps) one two = refl

  -- with the list of operands as it was read

  pub one_operand : (x : ℕ) (qs ps : List ℕ) → qs ≡ ps → length qs ≡ 1 → by_one s (sort_of t (f (get_or qs 0 x))) ≡ by_operands t s (map f ps)
  one_operand x qs ps is one = one_count x qs one ∙ ap (λ xs. by_operands t s (map f xs)) is

  pub two_operands : (x y : ℕ) (qs ps : List ℕ) → qs ≡ ps → length qs ≡ 2
      → by_two s (sort_of t (f (get_or qs 0 x))) (sort_of t (f (get_or qs 1 y))) ≡ by_operands t s (map f ps)
  two_operands x y qs ps is two = two_count x y qs two ∙ ap (λ xs. by_operands t s (map f xs)) is

  pub kept_otherwise : (qs ps : List ℕ) → qs ≡ ps → length qs ≢ 1 → length qs ≢ 2 → writing.Kept ≡ by_operands t s (map f ps)
  kept_otherwise qs ps is one two = other_count qs one two ∙ ap (λ xs. by_operands t s (map f xs)) is
