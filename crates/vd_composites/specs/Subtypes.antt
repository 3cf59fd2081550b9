-- Subtypes with their bounds evaluated, and what it is for a value to be made one of a subtype.
-- (IEEE 1076-2019, 5.2.1, 5.3.2.2, 6.3, 9.3.5, 9.3.6 and 10.6.2; IEEE 1076-1993, 3.1, 3.2.1.1, 4.2, 7.3.4, 7.3.5 and 8.5.)
use Rattle.std.specs.Prelude.{◌≡◌, ℕ, suc, ◌==◌, IsTrue, Option, Some, None, Ok, Err, if◌then◌else◌}
use Rattle.vd_values.specs.declared.scalar.Scalar.{Scalar}
use Rattle.vd_values.specs.declared.scalar.StopKind.TheVariants.{Range, Index, Length}
use Rattle.vd_composites.specs.declared.ranges.Bounds.{Bounds}
use Rattle.vd_composites.specs.declared.scalars.ScalarSubtype.{ScalarSubtype}
use Rattle.vd_composites.specs.Stops.{OrStop}
use Rattle.vd_composites.specs.Ranges.{length_of, lies_within, from_left}
use Rattle.vd_composites.specs.Scalars.{belongs, scalar_at}
use Rattle.vd_composites.specs.Composites.{Value, One, Array, Fields, Items, none, item, count, repeated}
use Rattle.vd_composites.specs.Parts.{misshapen, array_of}

mutual
  pub data Subtype : Type 0 where
    Scalars : (scalar : ScalarSubtype) → Subtype
    -- arrays with an index of this subtype, of any bounds or of these
    Arrays : (index : ScalarSubtype) (bounds : Option Bounds) (element : Subtype) → Subtype
    Records : (fields : Subtypes) → Subtype

  pub data Subtypes : Type 0 where
    no_more : Subtypes
    and_more : (first : Subtype) (rest : Subtypes) → Subtypes

abbrev pub number_of : Subtypes → ℕ
number_of no_more = 0
number_of (and_more s ss) = suc (number_of ss)

-- An array of these bounds, where it is null or its bounds lie within the index subtype.
abbrev pub indexed : {L : Type 0} → ScalarSubtype → Bounds → Items L → OrStop (Value L)
indexed index b vs = if lies_within index.range b then array_of b vs else Err Index

-- the elements of an array under the bounds of a subtype, of which there must be as many, or under their own
abbrev pub under : {L : Type 0} → ScalarSubtype → Option Bounds → Bounds → Items L → OrStop (Value L)
under index (Some b) own vs = if count vs == length_of b then Ok (Array b vs) else Err Length
under index None own vs = indexed index own vs

-- A value made one of a subtype, as by an assignment, an initialisation, a parameter, a `return`, a qualified expression or a type
-- conversion. A scalar must belong to the subtype: Range. An array takes the bounds of the subtype and must have as many elements:
-- Length. Where the subtype has no bounds it keeps its own, which must lie within the index subtype unless it is null: Index.
-- Elements and fields aren't looked at, since each was made one of its own subtype where it came from.
abbrev pub fit : Subtype → Value Scalar → OrStop (Value Scalar)
fit (Scalars s) (One x) = if belongs s x then Ok (One x) else Err Range
fit (Arrays index bounds element) (Array own vs) = under index bounds own vs
fit (Records fields) (Fields vs) = if count vs == number_of fields then Ok (Fields vs) else misshapen
fit _ _ = misshapen

-- what a value has that was made one of a subtype
abbrev pub HasSubtype : Subtype → Value Scalar → Type 0
HasSubtype (Scalars s) (One x) = IsTrue (belongs s x)
HasSubtype (Arrays index (Some b) element) (Array own vs) = (own ≡ b) × (count vs ≡ length_of b)
HasSubtype (Arrays index None element) (Array own vs) = IsTrue (lies_within index.range own) × (count vs ≡ length_of own)
HasSubtype (Records fields) (Fields vs) = count vs ≡ number_of fields
HasSubtype _ _ = ⊥

-- The leftmost value of a subtype, with which an object begins that is given no other: of a scalar the left bound, also where the
-- range is null. An array without bounds has none, and a null array stands here.
abbrev mutual
  pub default_of : Subtype → Value Scalar
  default_of (Scalars s) = One (scalar_at s.of_type s.range.left)
  default_of (Arrays index (Some b) element) = Array b (repeated (length_of b) (default_of element))
  default_of (Arrays index None element) = Array (from_left index.range.left index.range.down 0) none
  default_of (Records fields) = Fields (defaults_of fields)

  pub defaults_of : Subtypes → Items Scalar
  defaults_of no_more = none
  defaults_of (and_more s ss) = item (default_of s) (defaults_of ss)

-- A subtype with a constraint. The bounds of a range that isn't null belong to the scalar subtype, Range, or to the index subtype,
-- Index.
abbrev pub constrained : Subtype → Bounds → OrStop Subtype
constrained (Scalars s) b = if lies_within s.range b then Ok (Scalars (record { of_type = s.of_type; range = b })) else Err Range
constrained (Arrays index None element) b = if lies_within index.range b then Ok (Arrays index (Some b) element) else Err Index
constrained _ b = misshapen
