-- Profiles.
use Rattle.std.proofs.Common.{◌≡◌, ℕ, false, List, [], ◌∷◌, map, length, Bool, ◌&&◌, true, refl, ap, ◌∙◌, arith, Option}
use Rattle.vd_regions.specs.Homographs.{same_type, same_types}

and_false : (b : Bool) → (b && false) ≡ false
and_false true = refl
and_false false = refl

-- lists of other lengths aren't the same
pub of_other_lengths : {X Y : Type 0} (f : X → Option ℕ) (g : Y → Option ℕ) (xs : List X) (ys : List Y) → (length xs ≡ length ys → ⊥)
    → same_types (map f xs) (map g ys) ≡ false
of_other_lengths f g [] [] other = absurd (other refl)
of_other_lengths f g [] (y ∷ ys) other = refl
of_other_lengths f g (x ∷ xs) [] other = refl
of_other_lengths f g (x ∷ xs) (y ∷ ys) other =
    ap (λ b. same_type (f x) (g y) && b) (of_other_lengths f g xs ys (λ e. other (omega (arith, e)))) ∙ and_false (same_type (f x) (g y))
