-- Only functions take the place of an operator.
use Rattle.std.proofs.Common.{◌≡◌, ◌∙◌, inl, inr, ℕ, Bool, true, false, not, List, [], ◌∷◌, refl, sym, ap, true≢false}
use Rattle.std.specs.List.{filter}
use Rattle.std.proofs.lemmas.Bool.{and_parts, cases_Bool}
use Rattle.std.proofs.lemmas.Map.Views.{any-filter_same}
use Rattle.vd_declarations.specs.Classes.{is_function, is_predefined}
use Rattle.vd_regions.specs.Scopes.{Scopes, declaration_at}
use Rattle.vd_regions.specs.Homographs.{replaces}
use Rattle.vd_regions.specs.Found.{in_place, functions_of, declared_of}

function_alone : (s : Scopes) (j k : ℕ) → replaces s j k ≡ true → is_function (declaration_at s j).class ≡ true
function_alone s j k e = (and_parts _ _ (and_parts _ _ e).0).0

-- and they take the place of operators alone
pub no_operator : (s : Scopes) (ks : List ℕ) (k : ℕ) → is_predefined (declaration_at s k).class ≡ false → in_place s ks k ≡ true
no_operator s [] k other = refl
no_operator s (j ∷ ks) k other = elim (cases_Bool (replaces s j k)) [
  | inl t ↦ absurd (true≢false (sym (and_parts _ _ (and_parts _ _ t).0).1 ∙ other))
  | inr f ↦ rw f (no_operator s ks k other)
]

in_place_of_functions : (s : Scopes) (ks : List ℕ) (k : ℕ) → in_place s (functions_of s ks) k ≡ in_place s ks k
in_place_of_functions s ks k =
    ap not (any-filter_same (λ j. replaces s j k) (λ j. is_function (declaration_at s j).class) true (λ j. function_alone s j k) ks)

filter_same : {X : Type 0} (p q : X → Bool) → ((x : X) → p x ≡ q x) → (xs : List X) → filter p xs ≡ filter q xs
filter_same p q same [] = refl
filter_same p q same (x ∷ xs) = rw (same x, filter_same p q same xs) refl

pub functions_alone : (s : Scopes) (ks : List ℕ) → filter (in_place s (functions_of s ks)) ks ≡ declared_of s ks
functions_alone s ks = filter_same (in_place s (functions_of s ks)) (in_place s ks) (in_place_of_functions s ks) ks
