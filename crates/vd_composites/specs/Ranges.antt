-- Ranges: a left bound, a right bound and a direction. The bounds of an array are one, and so is the constraint of a scalar subtype.
-- (IEEE 1076-2019, 5.2.1 and 5.3.2; IEEE 1076-1993, 3.1 and 3.2.1.) The values of a discrete type count by their positions here.
use Rattle.std.specs.Prelude.{ℕ, zero, suc, ◌==◌, ℤ, pos, negsuc, ◌+ℤ◌, ◌-ℤ◌, int_le, Bool, false, not, ◌&&◌, ◌||◌, List, [], ◌∷◌, if◌then◌else◌}
use Rattle.vd_composites.specs.declared.ranges.Bounds.{Bounds}

-- a whole number that isn't negative; any other counts as 0
abbrev pub size_of : ℤ → ℕ
size_of (pos n) = n
size_of (negsuc n) = 0

-- how many values a range has; a null range has none
abbrev pub length_of : Bounds → ℕ
length_of b = if b.down then size_of (b.left -ℤ b.right +ℤ pos 1) else size_of (b.right -ℤ b.left +ℤ pos 1)

abbrev pub is_null : Bounds → Bool
is_null b = length_of b == 0

-- whether a number belongs to a range; none belongs to a null range
abbrev pub is_within : Bounds → ℤ → Bool
is_within b i = if b.down then int_le b.right i && int_le i b.left else int_le b.left i && int_le i b.right

-- the place of an index, from the left, counted from 0
abbrev pub place_of : Bounds → ℤ → ℕ
place_of b i = if b.down then size_of (b.left -ℤ i) else size_of (i -ℤ b.left)

-- the number that is so many steps on in a direction, and the one that is one step before
abbrev pub steps_on : Bool → ℤ → ℕ → ℤ
steps_on down i n = if down then i -ℤ pos n else i +ℤ pos n

abbrev pub one_before : Bool → ℤ → ℤ
one_before down i = if down then i +ℤ pos 1 else i -ℤ pos 1

-- the index at a place
abbrev pub index_at : Bounds → ℕ → ℤ
index_at b n = steps_on b.down b.left n

-- The range of so many values from a left bound on. For none, its right bound is one step before the left one in its direction.
abbrev pub from_left : ℤ → Bool → ℕ → Bounds
from_left left down n = record { left = left; right = one_before down (steps_on down left n); down = down }

-- the range 1 to n
abbrev pub from_one : ℕ → Bounds
from_one n = from_left (pos 1) false n

-- the values of a range, from the left
abbrev pub values_from : ℕ → ℤ → Bool → List ℤ
values_from zero i down = []
values_from (suc n) i down = i ∷ values_from n (steps_on down i 1) down

abbrev pub values_in : Bounds → List ℤ
values_in b = values_from (length_of b) b.left b.down

-- whether a range is null or both its bounds belong to another one
abbrev pub lies_within : Bounds → Bounds → Bool
lies_within range b = is_null b || is_within range b.left && is_within range b.right

abbrev pub same_direction : Bool → Bool → Bool
same_direction d e = if d then e else not e

-- the bounds by size, and the range backwards
abbrev pub low_of : Bounds → ℤ
low_of b = if b.down then b.right else b.left

abbrev pub high_of : Bounds → ℤ
high_of b = if b.down then b.left else b.right

abbrev pub reversed : Bounds → Bounds
reversed b = record { left = b.right; right = b.left; down = not b.down }
