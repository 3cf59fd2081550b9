-- Parts of values: elements, slices, fields, and values with a part replaced. (IEEE 1076-2019, 8.3 to 8.5; IEEE 1076-1993, 6.3 to 6.5.)
use Rattle.std.specs.Prelude.{ℕ, ◌==◌, ℤ, Bool, ◌&&◌, List, [], ◌∷◌, Ok, Err, if◌then◌else◌}
use Rattle.vd_values.specs.declared.scalar.StopKind.TheVariants.{Range, Index, Length}
use Rattle.vd_composites.specs.declared.ranges.Bounds.{Bounds}
use Rattle.vd_composites.specs.Stops.{OrStop, ◌>>=◌}
use Rattle.vd_composites.specs.Ranges.{length_of, is_within, lies_within, place_of, same_direction}
use Rattle.vd_composites.specs.Composites.{Value, Array, Fields, Items, none, item, count, without, first_of, written}

-- What a value of another shape than asked gives. No design that the rules accept comes to one.
abbrev pub misshapen : {A : Type 0} → OrStop A
misshapen = Err Range

-- the first of some items, and the item at a place
abbrev pub first_item : {L : Type 0} → Items L → OrStop (Value L)
first_item none = misshapen
first_item (item v vs) = Ok v

abbrev pub item_at : {L : Type 0} → ℕ → Items L → OrStop (Value L)
item_at n vs = first_item (without n vs)

-- the element at an index, which must be within the bounds
abbrev pub element : {L : Type 0} → Bounds → Items L → ℤ → OrStop (Value L)
element b vs i = if is_within b i then item_at (place_of b i) vs else Err Index

-- these items as an array of these bounds, where they are as many as the bounds give
abbrev pub array_of : {L : Type 0} → Bounds → Items L → OrStop (Value L)
array_of b vs = if count vs == length_of b then Ok (Array b vs) else misshapen

-- A slice has the direction of its prefix, a null one too, and the bounds of one that isn't null are within those of the prefix. Its bounds
-- are those of its range.
abbrev pub is_slice : Bounds → Bounds → Bool
is_slice b s = same_direction b.down s.down && lies_within b s

abbrev pub slice : {L : Type 0} → Bounds → Items L → Bounds → OrStop (Value L)
slice b vs s = if is_slice b s then array_of s (first_of (length_of s) (without (place_of b s.left) vs)) else Err Index

-- a step from a value to a part of it; fields count from 0
pub data Step : Type 0 where
  AtIndex : (index : ℤ) → Step
  AtSlice : (range : Bounds) → Step
  AtField : (number : ℕ) → Step

abbrev pub part : {L : Type 0} → Step → Value L → OrStop (Value L)
part (AtIndex i) (Array b vs) = element b vs i
part (AtSlice s) (Array b vs) = slice b vs s
part (AtField n) (Fields vs) = item_at n vs
part _ _ = misshapen

-- the part at the end of some steps
abbrev pub reached : {L : Type 0} → List Step → Value L → OrStop (Value L)
reached [] v = Ok v
reached (step ∷ steps) v = part step v >>= reached steps

-- The elements of an array with those of another in the place of a slice. There must be as many.
abbrev pub with_slice : {L : Type 0} → Bounds → Items L → Bounds → Items L → OrStop (Value L)
with_slice b vs s new = if count new == length_of s then Ok (Array b (written (place_of b s.left) new vs)) else Err Length

-- a value with another part in the place of one that it has
abbrev pub with_new : {L : Type 0} → Step → Value L → Value L → OrStop (Value L)
with_new (AtIndex i) new (Array b vs) = Ok (Array b (written (place_of b i) (item new none) vs))
with_new (AtSlice s) (Array c new) (Array b vs) = with_slice b vs s new
with_new (AtField n) new (Fields vs) = Ok (Fields (written n (item new none) vs))
with_new _ _ _ = misshapen

-- A part can be replaced where it can be read, with the same stop elsewhere.
abbrev pub with_part : {L : Type 0} → Step → Value L → Value L → OrStop (Value L)
with_part step new v = part step v >>= λ old. with_new step new v

-- the value with a new part at the end of some steps
abbrev pub changed : {L : Type 0} → List Step → Value L → Value L → OrStop (Value L)
changed [] new v = Ok new
changed (step ∷ steps) new v = part step v >>= λ p. changed steps new p >>= λ q. with_part step q v
