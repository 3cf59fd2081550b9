-- Laws of values and subtypes. Each holds for all values, also those of another shape than a design comes to.
use Rattle.std.specs.Prelude.{◌≡◌, ◌≢◌, ◌<◌, ℕ, ℤ, Bool, IsTrue, Option, None, Ok}
use Rattle.vd_values.specs.declared.scalar.Scalar.{Scalar}
use Rattle.vd_composites.specs.declared.ranges.Bounds.{Bounds}
use Rattle.vd_composites.specs.declared.scalars.ScalarSubtype.{ScalarSubtype}
use Rattle.vd_composites.specs.Stops.{◌>>=◌}
use Rattle.vd_composites.specs.Ranges.{length_of, is_within, place_of, index_at, from_left}
use Rattle.vd_composites.specs.Scalars.{scalar_at, belongs}
use Rattle.vd_composites.specs.Composites.{Value, Array, Items, count, joined, leaves, items_in}
use Rattle.vd_composites.specs.Parts.{Step, AtIndex, AtSlice, AtField, part, with_part}
use Rattle.vd_composites.specs.Subtypes.{Subtype, Scalars, Arrays, fit, HasSubtype, default_of}
use Rattle.vd_composites.specs.Concatenations.{Operand, Whole, elements_of, concatenation}

-- ---- bounds

-- the places of a range are those below its length, each index has one, and each place has one index
pub record PlacesAreIndexes : Type 0 where
  pub place : (b : Bounds) (i : ℤ) → IsTrue (is_within b i) → (place_of b i < length_of b) × (index_at b (place_of b i) ≡ i)
  pub index : (b : Bounds) (n : ℕ) → n < length_of b → IsTrue (is_within b (index_at b n)) × (place_of b (index_at b n) ≡ n)

-- the range of so many values from a left bound has so many
abbrev pub RangesAreAsLong : Type 0
RangesAreAsLong = (left : ℤ) (down : Bool) (n : ℕ) → length_of (from_left left down n) ≡ n

-- ---- subtypes

-- A value made one of a subtype has it, and at most its bounds have changed. A value that has it stays as it is.
pub record FitsOnce : Type 0 where
  pub has : (s : Subtype) (v w : Value Scalar) → fit s v ≡ Ok w → HasSubtype s w
  pub items : (s : Subtype) (v w : Value Scalar) → fit s v ≡ Ok w → items_in w ≡ items_in v
  pub leaves_stay : (s : Subtype) (v w : Value Scalar) → fit s v ≡ Ok w → leaves w ≡ leaves v
  pub stays : (s : Subtype) (v : Value Scalar) → HasSubtype s v → fit s v ≡ Ok v
  pub again : (s : Subtype) (v : Value Scalar) → (fit s v >>= fit s) ≡ fit s v

-- arrays and records begin with a value of their subtype, and so do scalars whose left bound belongs to it
pub record DefaultsFit : Type 0 where
  pub arrays : (index : ScalarSubtype) (bounds : Option Bounds) (element : Subtype) → HasSubtype (Arrays index bounds element) (default_of (Arrays index bounds element))
  pub scalars : (s : ScalarSubtype) → IsTrue (belongs s (scalar_at s.of_type s.range.left)) → HasSubtype (Scalars s) (default_of (Scalars s))

-- Between array types that differ in their element subtypes alone, as the two vector types of std_logic_1164, a conversion is the
-- identity.
abbrev pub ConversionsKeepValues : Type 0
ConversionsKeepValues =
    (index : ScalarSubtype) (bounds : Option Bounds) (from to : Subtype) (v : Value Scalar) →
    HasSubtype (Arrays index bounds from) v → fit (Arrays index bounds to) v ≡ Ok v

-- ---- parts

-- what is read where a value was put in: of a slice the elements, under the bounds of the slice
abbrev pub as_part : {L : Type 0} → Step → Value L → Value L
as_part (AtSlice s) (Array c vs) = Array s vs
as_part step v = v

-- Another part than the one at a step: another element, or one outside the slice, or another field.
abbrev pub IsApart : Step → Step → Type 0
IsApart (AtIndex i) (AtIndex j) = i ≢ j
IsApart (AtSlice s) (AtIndex j) = IsTrue (is_within s j) → ⊥
IsApart (AtField m) (AtField n) = m ≢ n
IsApart _ _ = ⊥

pub record PartsAgree (L : Type 0) : Type 0 where
  -- what was put in is read
  pub written : (step : Step) (new v w : Value L) → with_part step new v ≡ Ok w → part step w ≡ Ok (as_part step new)
  -- every other part is read as before
  pub others : (step other : Step) (new v w : Value L) → IsApart step other → with_part step new v ≡ Ok w → part other w ≡ part other v
  -- a part put back changes nothing
  pub put_back : (step : Step) (v p : Value L) → part step v ≡ Ok p → with_part step p v ≡ Ok v
  -- a slice has as many elements as its range
  pub length : (s : Bounds) (v w : Value L) → part (AtSlice s) v ≡ Ok w → count (items_in w) ≡ length_of s
  -- an element of a slice is that of its prefix
  pub in_slice : (s : Bounds) (i : ℤ) (v w : Value L) → part (AtSlice s) v ≡ Ok w → IsTrue (is_within s i) → part (AtIndex i) w ≡ part (AtIndex i) v

-- ---- concatenations

-- a concatenation has the elements of its operands in order, and as many as its bounds give
abbrev pub Concatenates : Type 0
Concatenates =
    (l r : Operand) (index : ScalarSubtype) (bounds : Option Bounds) (element : Subtype) (vs ws : Items Scalar) (w : Value Scalar) →
    elements_of element l ≡ Ok vs → elements_of element r ≡ Ok ws → concatenation (Arrays index bounds element) l r ≡ Ok w →
    (items_in w ≡ joined vs ws) × HasSubtype (Arrays index None element) w

-- `&` is associative where its operands have elements, in its stops too
abbrev pub ConcatenationIsAssociative : Type 0
ConcatenationIsAssociative =
    (index : ScalarSubtype) (bounds : Option Bounds) (element : Subtype) (k l m : Operand) (us vs ws : Items Scalar) →
    elements_of element k ≡ Ok us → elements_of element l ≡ Ok vs → elements_of element m ≡ Ok ws →
    (concatenation (Arrays index bounds element) k l >>= λ x. concatenation (Arrays index bounds element) (Whole x) m)
    ≡ (concatenation (Arrays index bounds element) l m >>= λ y. concatenation (Arrays index bounds element) k (Whole y))
