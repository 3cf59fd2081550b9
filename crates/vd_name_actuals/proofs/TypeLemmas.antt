-- Lists of types of other lengths differ.
use Rattle.std.proofs.Common.{◌≡◌, ℕ, suc, false, ◌&&◌, List, [], ◌∷◌, length, Option, refl, ap, ◌∙◌}
use Rattle.std.proofs.Math.Bool.{and-false}
use Rattle.vd_regions.specs.Homographs.{same_type, same_types}

pub of_other_lengths : (ts us : List (Option ℕ)) → (length ts ≡ length us → ⊥) → same_types ts us ≡ false
of_other_lengths [] [] other = absurd (other refl)
of_other_lengths [] (u ∷ us) other = refl
of_other_lengths (t ∷ ts) [] other = refl
of_other_lengths (t ∷ ts) (u ∷ us) other = ap (λ b. same_type t u && b) (of_other_lengths ts us (λ same. other (ap suc same))) ∙ and-false (same_type t u)
