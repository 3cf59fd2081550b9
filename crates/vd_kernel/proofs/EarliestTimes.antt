-- The least of two lists of times.
use Rattle.std.proofs.Common.{◌≡◌, ℕ, List, [], ◌∷◌, ◌++◌, Option, Some, None, min, refl, ap, ◌∙◌, arith}
use Rattle.vd_kernel.specs.Cycles.{least, least_with}
use Rattle.vd_kernel.specs.Simulated.{earlier_of}

regroup : (x : ℕ) (a b : Option ℕ) → least_with x (earlier_of a b) ≡ earlier_of (least_with x a) b
regroup x None None = refl
regroup x None (Some u) = refl
regroup x (Some t) None = refl
regroup x (Some t) (Some u) = let e : min x (min t u) ≡ min (min x t) u = omega arith in ap Some e

pub least_append : (xs ys : List ℕ) → least (xs ++ ys) ≡ earlier_of (least xs) (least ys)
least_append [] ys = refl
least_append (x ∷ xs) ys = ap (least_with x) (least_append xs ys) ∙ regroup x (least xs) (least ys)
