-- What is found of interpretations. No name has a dash, so that a caller can name each in `#[tactic(auto, using(..))]`.
use Rattle.std.proofs.Common.{◌≡◌, ◌≤◌, ℕ, List, [], ◌∷◌, ◌++◌, map, length, refl, sym, ap, subst, ◌∙◌, arith, append-nil}
use Rattle.std.proofs.lemmas.List.{length-map}
use Rattle.vd_forest.specs.Forest.{Forest}
use Rattle.vd_forest.specs.Store.{at, Holds}
use Rattle.vd_resolved.specs.declared.node.Resolved.{Resolved}
use Rattle.vd_readings.specs.Found.{HoldsOnly, IsFound}
use Rattle.vd_readings.specs.declared.found.Found.{Found}
use Rattle.vd_overloads.specs.Interpretations.{or_else}

-- ---- the one list, or the other where it is empty

pub else_where_empty : (gs : List (Forest Resolved)) (found : Found) (xs ys : List (Forest Resolved)) → xs ≡ [] → IsFound gs found ys
    → IsFound gs found (or_else xs ys)
else_where_empty gs found xs ys empty is = subst (λ zs. IsFound gs found (or_else zs ys)) (sym empty) is

pub else_where_only : (gs : List (Forest Resolved)) (number : ℕ) (xs ys : List (Forest Resolved)) → HoldsOnly gs number xs
    → HoldsOnly gs number (or_else xs ys)
else_where_only gs number xs ys is = record {
  within = is.within;
  only = ap (λ zs. or_else zs ys) is.only;
}

pub else_where_several : (xs ys : List (Forest Resolved)) → 2 ≤ length xs → 2 ≤ length (or_else xs ys)
else_where_several [] ys several = absurd (omega arith)
else_where_several (x ∷ xs) ys several = several

-- ---- one state alone, and a node over each member

module _ (over : Forest Resolved → Forest Resolved) where
  pub over_none : (xs : List (Forest Resolved)) → xs ++ [] ≡ [] → map over xs ≡ []
  over_none [] none = refl
  over_none (x ∷ xs) none = absurd (omega (arith, ap length none))

  pub over_only : (gs hs : List (Forest Resolved)) (number made : ℕ) (xs : List (Forest Resolved)) → HoldsOnly gs number (xs ++ [])
      → Holds hs made (over (at gs number)) → HoldsOnly hs made (map over xs)
  over_only gs hs number made xs only held = record {
    within = held.within;
    only = ap (map over) (sym (append-nil xs) ∙ only.only) ∙ ap (λ f. f ∷ []) (sym held.is);
  }

  pub over_several : (xs : List (Forest Resolved)) → 2 ≤ length (xs ++ []) → 2 ≤ length (map over xs)
  over_several xs several = omega (arith, length-map xs over, ap length (append-nil xs), several)

pub ruleset overloading = (else_where_empty, else_where_only, else_where_several, over_none, over_only, over_several)
