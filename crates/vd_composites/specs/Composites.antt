-- Values: scalars, arrays with their bounds, records. (IEEE 1076-2019, 5.2 and 5.3; IEEE 1076-1993, 3.1 and 3.2.) The leaves are scalar values;
-- over other leaves the same shapes stand for what an object is made of, as its scalar signals.
use Rattle.std.specs.Prelude.{ℕ, zero, suc, ◌+◌, Bool, true, false, ◌&&◌, List, [], ◌∷◌, ◌++◌, Option, Some, None}
use Rattle.vd_values.specs.declared.scalar.Scalar.{Scalar}
use Rattle.vd_composites.specs.declared.ranges.Bounds.{Bounds}
use Rattle.vd_composites.specs.Scalars.{same_scalar}

mutual
  pub data Value (L : Type 0) : Type 0 where
    One : (leaf : L) → Value L
    -- an array: its elements from the left, as many as its bounds give
    Array : (bounds : Bounds) (elements : Items L) → Value L
    -- a record: its fields in the order of its declaration
    Fields : (fields : Items L) → Value L

  pub data Items (L : Type 0) : Type 0 where
    none : Items L
    item : (first : Value L) (rest : Items L) → Items L

-- the scalar value that a value is, and the bounds of an array
abbrev pub scalar_of : {L : Type 0} → Value L → Option L
scalar_of (One x) = Some x
scalar_of (Array b vs) = None
scalar_of (Fields vs) = None

abbrev pub bounds_of : {L : Type 0} → Value L → Option Bounds
bounds_of (One x) = None
bounds_of (Array b vs) = Some b
bounds_of (Fields vs) = None

-- the elements of an array, or the fields of a record
abbrev pub items_in : {L : Type 0} → Value L → Items L
items_in (One x) = none
items_in (Array b vs) = vs
items_in (Fields vs) = vs

-- ---- lists of items

abbrev pub count : {L : Type 0} → Items L → ℕ
count none = 0
count (item v vs) = suc (count vs)

abbrev pub joined : {L : Type 0} → Items L → Items L → Items L
joined none ws = ws
joined (item v vs) ws = item v (joined vs ws)

-- all but the first so many, and the first so many
abbrev pub without : {L : Type 0} → ℕ → Items L → Items L
without zero vs = vs
without (suc n) none = none
without (suc n) (item v vs) = without n vs

abbrev pub first_of : {L : Type 0} → ℕ → Items L → Items L
first_of zero vs = none
first_of (suc n) none = none
first_of (suc n) (item v vs) = item v (first_of n vs)

-- the items with others in the place of as many, from a place on
abbrev pub written : {L : Type 0} → ℕ → Items L → Items L → Items L
written n new vs = joined (first_of n vs) (joined new (without (n + count new) vs))

abbrev pub repeated : {L : Type 0} → ℕ → Value L → Items L
repeated zero v = none
repeated (suc n) v = item v (repeated n v)

abbrev pub items_of : {L : Type 0} → List (Value L) → Items L
items_of [] = none
items_of (v ∷ vs) = item v (items_of vs)

abbrev pub listed : {L : Type 0} → Items L → List (Value L)
listed none = []
listed (item v vs) = v ∷ listed vs

-- ---- leaves

-- the leaves, from left to right and record by field
abbrev mutual
  pub leaves : {L : Type 0} → Value L → List L
  leaves (One x) = x ∷ []
  leaves (Array b vs) = all_leaves vs
  leaves (Fields vs) = all_leaves vs

  pub all_leaves : {L : Type 0} → Items L → List L
  all_leaves none = []
  all_leaves (item v vs) = leaves v ++ all_leaves vs

-- the same shape over other leaves
abbrev mutual
  pub with_leaves : {L M : Type 0} → (L → M) → Value L → Value M
  with_leaves f (One x) = One (f x)
  with_leaves f (Array b vs) = Array b (all_with_leaves f vs)
  with_leaves f (Fields vs) = Fields (all_with_leaves f vs)

  pub all_with_leaves : {L M : Type 0} → (L → M) → Items L → Items M
  all_with_leaves f none = none
  all_with_leaves f (item v vs) = item (with_leaves f v) (all_with_leaves f vs)

-- ---- equality

-- Whether two values of one type are equal: arrays have equally many elements, and these are equal in pairs from the left; their
-- bounds don't count. (IEEE 1076-2019, 9.2.3; IEEE 1076-1993, 7.2.2.)
abbrev mutual
  pub same_value : Value Scalar → Value Scalar → Bool
  same_value (One x) (One y) = same_scalar x y
  same_value (Array b vs) (Array c ws) = same_items vs ws
  same_value (Fields vs) (Fields ws) = same_items vs ws
  same_value _ _ = false

  pub same_items : Items Scalar → Items Scalar → Bool
  same_items none none = true
  same_items (item v vs) (item w ws) = same_value v w && same_items vs ws
  same_items _ _ = false
