-- How a value lies in memory: its nodes in one list, each in front of its parts, from left to right. The first node of an array has
-- its left bound and its direction, and the second its right bound.
use Rattle.std.specs.Prelude.{ℕ, zero, suc, ◌+◌, ◌==◌, ℤ, Bool, List, [], ◌∷◌, Option, Some, None, if◌then◌else◌}
use Rattle.vd_values.specs.declared.scalar.Scalar.{Scalar}
use Rattle.vd_values.specs.declared.scalar.Scalar.TheVariants.{Integer as OfInteger, Literal as OfLiteral, Time as OfTime}
use Rattle.vd_composites.specs.declared.ranges.Bounds.{Bounds}
use Rattle.vd_composites.specs.declared.nodes.Node.{Node}
use Rattle.vd_composites.specs.declared.nodes.Node.TheVariants.{Integer, Literal, Time, Array as ArrayNode, Right, Fields as FieldsNode}
use Rattle.vd_composites.specs.Ranges.{length_of, place_of}
use Rattle.vd_composites.specs.Composites.{Value, One, Array, Fields, Items, none, item, without, first_of}

abbrev pub bounds_from : ℤ → Bool → ℤ → Bounds
bounds_from left down right = record { left = left; right = right; down = down }

-- an array of the first items, as many as its bounds give, in front of the others
abbrev pub array_in_front : Bounds → Items Scalar → Items Scalar
array_in_front b vs = item (Array b (first_of (length_of b) vs)) (without (length_of b) vs)

abbrev pub record_in_front : ℕ → Items Scalar → Items Scalar
record_in_front n vs = item (Fields (first_of n vs)) (without n vs)

-- the items that some nodes make
abbrev pub read : List Node → Items Scalar
read [] = none
read (Integer x ∷ ns) = item (One (OfInteger x)) (read ns)
read (Literal p ∷ ns) = item (One (OfLiteral p)) (read ns)
read (Time t ∷ ns) = item (One (OfTime t)) (read ns)
read (ArrayNode left down ∷ Right right ∷ ns) = array_in_front (bounds_from left down right) (read ns)
read (FieldsNode n ∷ ns) = record_in_front n (read ns)
read (_ ∷ ns) = none

-- How many items are still wanted behind some nodes, where so many are wanted in front of them. None where the nodes make no
-- items, or more than are wanted.
abbrev pub after : ℕ → List Node → Option ℕ
after m [] = Some m
after zero (n ∷ ns) = None
after (suc m) (Integer x ∷ ns) = after m ns
after (suc m) (Literal p ∷ ns) = after m ns
after (suc m) (Time t ∷ ns) = after m ns
after (suc m) (ArrayNode left down ∷ Right right ∷ ns) = after (length_of (bounds_from left down right) + m) ns
after (suc m) (FieldsNode n ∷ ns) = after (n + m) ns
after (suc m) (_ ∷ ns) = None

-- the first of some items. There is one in each value
abbrev pub value_in : Items Scalar → Value Scalar
value_in none = One (OfLiteral 0)
value_in (item v vs) = v

-- ---- the first item of some nodes

-- the bounds of the array that begins there, and the number of fields of the record that begins there
abbrev pub bounds_in : List Node → Option Bounds
bounds_in (ArrayNode left down ∷ Right right ∷ ns) = Some (bounds_from left down right)
bounds_in _ = None

abbrev pub fields_in : List Node → Option ℕ
fields_in (FieldsNode n ∷ ns) = Some n
fields_in _ = None

-- how many nodes it has that aren't those of its parts, and how many parts it has
abbrev pub width_of : List Node → ℕ
width_of (ArrayNode left down ∷ Right right ∷ ns) = 2
width_of _ = 1

abbrev pub parts_in : List Node → ℕ
parts_in (ArrayNode left down ∷ Right right ∷ ns) = length_of (bounds_from left down right)
parts_in (FieldsNode n ∷ ns) = n
parts_in _ = 0

-- the place of the first element of a slice, 0 where it has none
abbrev pub slice_start : Bounds → Bounds → ℕ
slice_start b s = if length_of s == 0 then 0 else place_of b s.left

-- the scalar value that stands there
abbrev pub scalar_in : List Node → Option Scalar
scalar_in (Integer x ∷ ns) = Some (OfInteger x)
scalar_in (Literal n ∷ ns) = Some (OfLiteral n)
scalar_in (Time t ∷ ns) = Some (OfTime t)
scalar_in _ = None
