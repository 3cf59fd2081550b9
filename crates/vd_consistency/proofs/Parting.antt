-- A part of a signal is made of scalar signals of it.
use Rattle.std.proofs.Common.{◌≡◌, ℕ, zero, suc, Bool, true}
use Rattle.std.specs.Prelude.{◌==◌, Ok, IfOk}
use Rattle.std.specs.List.{AllByRecursion}
use Rattle.vd_composites.specs.declared.ranges.Bounds.{Bounds}
use Rattle.vd_composites.specs.Ranges.{length_of, is_within, place_of}
use Rattle.vd_composites.specs.Composites.{Value, One, Array, Fields, Items, none, item, count, without, first_of, leaves, all_leaves}
use Rattle.vd_composites.specs.Parts.{first_item, item_at, array_of, is_slice, Step, AtIndex, AtSlice, AtField, part, misshapen}
use Rattle.vd_consistency.specs.Invariants.{AreOf, AllAreOf}
use Rattle.vd_consistency.proofs.Steps.{either, joined}

module _ {L : Type 0} (P : L → Bool) where
  without_of : (n : ℕ) (vs : Items L) → AllAreOf P vs → AllAreOf P (without n vs)
  without_of zero vs h = h
  without_of (suc n) none h = tt
  without_of (suc n) (item v vs) h = without_of n vs h.1

  first_of_of : (n : ℕ) (vs : Items L) → AllAreOf P vs → AllAreOf P (first_of n vs)
  first_of_of zero vs h = tt
  first_of_of (suc n) none h = tt
  first_of_of (suc n) (item v vs) h = (h.0, first_of_of n vs h.1)

  first_item_of : (vs : Items L) → AllAreOf P vs → IfOk (first_item vs) (AreOf P)
  first_item_of none h = tt
  first_item_of (item v vs) h = h.0

  item_of : (n : ℕ) (vs : Items L) → AllAreOf P vs → IfOk (item_at n vs) (AreOf P)
  item_of n vs h = first_item_of (without n vs) (without_of n vs h)

  array_of_of : (b : Bounds) (vs : Items L) → AllAreOf P vs → IfOk (array_of b vs) (AreOf P)
  array_of_of b vs h = either (AreOf P) (count vs == length_of b) (Ok (Array b vs)) misshapen h tt

  pub part_of : (step : Step) (v : Value L) → AreOf P v → IfOk (part step v) (AreOf P)
  part_of (AtIndex i) (Array b vs) h = either (AreOf P) (is_within b i) (item_at (place_of b i) vs) _ (item_of (place_of b i) vs h) tt
  part_of (AtSlice s) (Array b vs) h =
      either (AreOf P) (is_slice b s) (array_of s (first_of (length_of s) (without (place_of b s.left) vs))) _
      (array_of_of s (first_of (length_of s) (without (place_of b s.left) vs)) (first_of_of (length_of s) (without (place_of b s.left) vs) (without_of (place_of b s.left) vs h))) tt
  part_of (AtField n) (Fields vs) h = item_of n vs h
  part_of (AtIndex i) (One x) h = tt
  part_of (AtIndex i) (Fields vs) h = tt
  part_of (AtSlice s) (One x) h = tt
  part_of (AtSlice s) (Fields vs) h = tt
  part_of (AtField n) (One x) h = tt
  part_of (AtField n) (Array b vs) h = tt

  -- and all its scalar signals are of it
  mutual
    pub leaves_of : (v : Value L) → AreOf P v → AllByRecursion (λ x. P x ≡ true) (leaves v)
    leaves_of (One x) h = (h, tt)
    leaves_of (Array b vs) h = all_leaves_of vs h
    leaves_of (Fields vs) h = all_leaves_of vs h

    pub all_leaves_of : (vs : Items L) → AllAreOf P vs → AllByRecursion (λ x. P x ≡ true) (all_leaves vs)
    all_leaves_of none h = tt
    all_leaves_of (item v vs) h = joined (λ x. P x ≡ true) (leaves v) (all_leaves vs) (leaves_of v h.0) (all_leaves_of vs h.1)
