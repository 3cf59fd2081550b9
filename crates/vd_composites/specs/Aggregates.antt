-- Aggregates from their evaluated parts. (IEEE 1076-2019, 9.3.3; IEEE 1076-1993, 7.3.2.) A choice is a range here, that of one value
-- being the range from it to itself. The expression of an association is evaluated for each element that it stands for, in the order of
-- the text and of its choices, and its value is made one of the element subtype at once, before the next one is evaluated. The values
-- here have been made so.
use Rattle.std.specs.Prelude.{ℕ, zero, suc, ℤ, pos, int_le, Bool, true, false, not, List, [], ◌∷◌, filter, Ok, Err, if◌then◌else◌}
use Rattle.std.specs.List.{list_all, list_any, flat_map}
use Rattle.std.specs.Ordering.{int_eq}
use Rattle.vd_values.specs.declared.scalar.StopKind.TheVariants.{Index}
use Rattle.vd_composites.specs.declared.ranges.Bounds.{Bounds}
use Rattle.vd_composites.specs.declared.scalars.ScalarSubtype.{ScalarSubtype}
use Rattle.vd_composites.specs.Stops.{OrStop, ◌>>=◌}
use Rattle.vd_composites.specs.Ranges.{is_null, is_within, lies_within, low_of, high_of, from_left, from_one, values_in}
use Rattle.vd_composites.specs.Composites.{Value, Array, Fields, Items, none, item}
use Rattle.vd_composites.specs.Parts.{misshapen}

-- ---- bounds

abbrev pub lesser : ℤ → ℤ → ℤ
lesser i j = if int_le i j then i else j

abbrev pub greater : ℤ → ℤ → ℤ
greater i j = if int_le i j then j else i

-- the least and the greatest value of some ranges that aren't null, and of a first one
abbrev pub least_of : Bounds → List Bounds → ℤ
least_of b [] = low_of b
least_of b (c ∷ cs) = lesser (low_of b) (least_of c cs)

abbrev pub greatest_of : Bounds → List Bounds → ℤ
greatest_of b [] = high_of b
greatest_of b (c ∷ cs) = greater (high_of b) (greatest_of c cs)

-- from the least to the greatest value, in a direction
abbrev pub spanned : Bool → Bounds → List Bounds → Bounds
spanned down b cs =
    if down then record { left = greatest_of b cs; right = least_of b cs; down = true }
    else record { left = least_of b cs; right = greatest_of b cs; down = false }

-- The bounds that choices give: of those that aren't null, and where all are null, of the first one as it is written. Where there is none at
-- all they are 1 to 0; no aggregate is written so.
abbrev pub bounds_of_some : Bool → List Bounds → Bounds → Bounds
bounds_of_some down [] first = first
bounds_of_some down (b ∷ bs) first = spanned down b bs

abbrev pub chosen_bounds : Bool → List Bounds → Bounds
chosen_bounds down [] = from_one 0
chosen_bounds down (b ∷ bs) = bounds_of_some down (filter (λ c. not (is_null c)) (b ∷ bs)) b

-- The bounds of an aggregate with choices and without `others`. Its direction is that of its known subtype, where it has one, else
-- ascending. Where it isn't null, the bounds lie within the index subtype.
abbrev pub named_bounds : ScalarSubtype → Bool → List Bounds → OrStop Bounds
named_bounds index down choices =
    if lies_within index.range (chosen_bounds down choices) then Ok (chosen_bounds down choices) else Err Index

-- The bounds of an aggregate with `others` are known, and the other choices lie within them.
abbrev pub bounds_with_others : Bounds → List Bounds → OrStop Bounds
bounds_with_others known choices = if list_all (lies_within known) choices then Ok known else Err Index

-- the choice that so many positions in front of `others` stand for
abbrev pub first_positions : Bounds → ℕ → Bounds
first_positions known n = from_left known.left known.down n

-- ---- elements

-- the indexes that choices stand for, in their order, and those that are left for `others`, from the left
abbrev pub chosen_indexes : List Bounds → List ℤ
chosen_indexes choices = flat_map values_in choices

abbrev pub other_indexes : Bounds → List Bounds → List ℤ
other_indexes known choices = filter (λ i. not (list_any (λ c. is_within c i) choices)) (values_in known)

-- the value for an index among pairs of an index and a value. Each index has one
abbrev pub value_for : {L : Type 0} → ℤ → List (ℤ × Value L) → OrStop (Value L)
value_for i [] = misshapen
value_for i (p ∷ ps) = if int_eq i p.0 then Ok p.1 else value_for i ps

abbrev pub values_for : {L : Type 0} → List ℤ → List (ℤ × Value L) → OrStop (Items L)
values_for [] ps = Ok none
values_for (i ∷ is) ps = value_for i ps >>= λ v. values_for is ps >>= λ vs. Ok (item v vs)

-- an array of these bounds from the values for its indexes
abbrev pub array_from : {L : Type 0} → Bounds → List (ℤ × Value L) → OrStop (Value L)
array_from b ps = values_for (values_in b) ps >>= λ vs. Ok (Array b vs)

-- a record of so many fields from the values for their numbers
abbrev pub numbers_from : ℕ → ℕ → List ℤ
numbers_from first zero = []
numbers_from first (suc n) = pos first ∷ numbers_from (suc first) n

abbrev pub record_from : {L : Type 0} → ℕ → List (ℤ × Value L) → OrStop (Value L)
record_from n ps = values_for (numbers_from 0 n) ps >>= λ vs. Ok (Fields vs)
