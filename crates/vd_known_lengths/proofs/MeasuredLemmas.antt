-- Parts by their numbers, and names piece by piece.
use Rattle.std.proofs.Common.{◌≡◌, ◌∷◌, ◌∙◌, ◌+◌, ◌<◌, ap, arith, drop, drop-cons, get_or, length, List, None, Option, Some, [], refl, slice_get, subst, suc, zero, ℕ}
use Rattle.vd_forest.specs.Forest.{Forest}
use Rattle.vd_value_rules.specs.declared.forms.IndicatedForm.{IndicatedForm}
use Rattle.vd_known_lengths.specs.Extents.{AreMeasured, IsExtent, IsMeasured, IsPiece}
use Rattle.vd_known_lengths.specs.declared.extents.Extent.{Extent}
use Rattle.vd_known_lengths.specs.declared.pieces.Measured.{Measured}
use Rattle.vd_value_rules.specs.Lengths.{Shaped, Shaping, name_shaped, no_shaping, nth_shaping}

-- the next one of some pieces
pub next_piece : (xs : List Measured) (i : ℕ) (unknown : Measured) → i < length xs → drop i xs ≡ get_or xs i unknown ∷ drop (i + 1) xs
next_piece xs i unknown within =
    let next : suc i ≡ i + 1 = omega arith in drop-cons xs i unknown within ∙ ap (λ j. get_or xs i unknown ∷ drop j xs) next

module _ (store : List (Forest IndicatedForm)) where
  abbrev IsPart : Option Measured → Shaping → Type 0
  IsPart None s = s ≡ no_shaping
  IsPart (Some x) s = IsMeasured store x s

  nth_part : (n : ℕ) (xs : List Measured) (ss : List Shaping) → AreMeasured store xs ss → IsPart (slice_get xs n) (nth_shaping n ss)
  nth_part n [] [] are = refl
  nth_part n [] (s ∷ ss) are = absurd are
  nth_part n (x ∷ xs) [] are = absurd are
  nth_part zero (x ∷ xs) (s ∷ ss) are = are.0
  nth_part (suc n) (x ∷ xs) (s ∷ ss) are = nth_part n xs ss are.1

  -- where the code has found it, or has found none
  pub nth_here : (n : ℕ) (xs : List Measured) (ss : List Shaping) (x : Measured) → AreMeasured store xs ss → slice_get xs n ≡ Some x
      → IsMeasured store x (nth_shaping n ss)
  nth_here n xs ss x are is = subst (λ o. IsPart o (nth_shaping n ss)) is (nth_part n xs ss are)

  pub nth_missing : (n : ℕ) (xs : List Measured) (ss : List Shaping) → AreMeasured store xs ss → slice_get xs n ≡ None → nth_shaping n ss ≡ no_shaping
  nth_missing n xs ss are is = subst (λ o. IsPart o (nth_shaping n ss)) is (nth_part n xs ss are)

  -- With the pieces that are left the name comes to the whole one.
  pub record ComesTo (x : Extent) (left : List Measured) (whole : Shaped) : Type 0 where
    pub so_far : Shaped
    pub ss : List Shaping
    pub extent : IsExtent store x so_far
    pub pieces : AreMeasured store left ss
    pub is : name_shaped ss so_far ≡ whole

  last_name : (x : Extent) (p whole : Shaped) (ss : List Shaping) → IsExtent store x p → AreMeasured store [] ss → name_shaped ss p ≡ whole → IsExtent store x whole
  last_name x p whole [] extent pieces is = subst (IsExtent store x) is extent
  last_name x p whole (s ∷ ss) extent pieces is = absurd pieces

  pub comes_at_last : (x : Extent) (left : List Measured) (whole : Shaped) → left ≡ [] → ComesTo x left whole → IsExtent store x whole
  comes_at_last x [] whole none way = last_name x way.so_far whole way.ss way.extent way.pieces way.is
  comes_at_last x (y ∷ left) whole none way = absurd (cc)

  next_name : (x y : Extent) (node : Measured) (left : List Measured) (p whole : Shaped) (ss : List Shaping) → IsExtent store x p
      → ((q : Shaped) (f : Shaped → Shaped) → IsExtent store x q → IsPiece store node.piece f → IsExtent store y (f q))
      → AreMeasured store (node ∷ left) ss → name_shaped ss p ≡ whole → ComesTo y left whole
  next_name x y node left p whole [] extent applied pieces is = absurd pieces
  next_name x y node left p whole (s ∷ ss) extent applied pieces is =
      record { so_far = s.piece p; ss = ss; extent = applied p s.piece extent pieces.0.piece; pieces = pieces.1; is = is }

  pub comes_further : (x y : Extent) (node : Measured) (left all : List Measured) (whole : Shaped) → all ≡ node ∷ left
      → ((q : Shaped) (f : Shaped → Shaped) → IsExtent store x q → IsPiece store node.piece f → IsExtent store y (f q))
      → ComesTo x all whole → ComesTo y left whole
  comes_further x y node left all whole begins applied way =
      next_name x y node left way.so_far whole way.ss way.extent applied (subst (λ xs. AreMeasured store xs way.ss) begins way.pieces) way.is
