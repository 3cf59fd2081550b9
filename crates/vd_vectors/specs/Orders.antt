-- The ordering operators. (IEEE 1076-2019, 9.2.3; IEEE 1076-1993, 7.2.2.) Scalars are ordered by their positions, arrays of discrete elements by
-- their first differing elements, and where there are none the shorter one is less.
use Rattle.std.specs.Prelude.{ℤ, int_le, Bool, true, false, List, [], ◌∷◌, Option, Some, None, Ok, if◌then◌else◌}
use Rattle.std.specs.Ordering.{int_eq}
use Rattle.std.specs.declared.cmp.Ordering.{Ordering}
use Rattle.std.specs.declared.cmp.Ordering.TheVariants.{Less, Equal, Greater}
use Rattle.vd_values.specs.declared.scalar.Scalar.{Scalar}
use Rattle.vd_values.specs.declared.logic.Logic.TheVariants.{Zero, One}
use Rattle.vd_composites.specs.declared.ranges.Bounds.{Bounds}
use Rattle.vd_composites.specs.Stops.{OrStop, ◌>>=◌}
use Rattle.vd_composites.specs.Scalars.{position_of}
use Rattle.vd_composites.specs.Composites.{Value, bounds_of, scalar_of}
use Rattle.vd_composites.specs.Parts.{misshapen}
use Rattle.vd_composites.specs.Vectors.{positions_of}
use Rattle.vd_vectors.specs.declared.logics.LogicType.TheVariants.{TwoValued}
use Rattle.vd_vectors.specs.declared.orders.Relation.{Relation}
use Rattle.vd_vectors.specs.declared.orders.Relation.TheVariants.{IsLess, IsAtMost, IsGreater, IsAtLeast}
use Rattle.vd_vectors.specs.Logics.{logic_value, or_misshapen, truth}

abbrev pub order_of : ℤ → ℤ → Ordering
order_of x y = if int_eq x y then Equal else if int_le x y then Less else Greater

abbrev pub list_order : List ℤ → List ℤ → Ordering
list_order [] [] = Equal
list_order [] (y ∷ ys) = Less
list_order (x ∷ xs) [] = Greater
list_order (x ∷ xs) (y ∷ ys) = if int_eq x y then list_order xs ys else order_of x y

abbrev pub array_order : Value Scalar → Value Scalar → OrStop Ordering
array_order l r = positions_of l >>= λ xs. positions_of r >>= λ ys. Ok (list_order xs ys)

abbrev pub order_by_shapes : Option Bounds → Option Bounds → Value Scalar → Value Scalar → OrStop Ordering
order_by_shapes (Some b) (Some c) l r = array_order l r
order_by_shapes None None l r = or_misshapen (scalar_of l) >>= λ x. or_misshapen (scalar_of r) >>= λ y. Ok (order_of (position_of x) (position_of y))
order_by_shapes _ _ l r = misshapen

abbrev pub order : Value Scalar → Value Scalar → OrStop Ordering
order l r = order_by_shapes (bounds_of l) (bounds_of r) l r

-- the operators `<`, `<=`, `>` and `>=`
abbrev pub holds : Relation → Ordering → Bool
holds IsLess Less = true
holds IsAtMost Less = true
holds IsAtMost Equal = true
holds IsGreater Greater = true
holds IsAtLeast Greater = true
holds IsAtLeast Equal = true
holds _ _ = false

abbrev pub ordered : Relation → Value Scalar → Value Scalar → OrStop (Value Scalar)
ordered o l r = order l r >>= λ c. Ok (truth (holds o c))

-- The operators `?<`, `?<=`, `?>` and `?>=` on BIT give '1' where the one without the mark holds.
abbrev pub matching_ordered : Relation → Value Scalar → Value Scalar → OrStop (Value Scalar)
matching_ordered o l r = order l r >>= λ c. Ok (logic_value TwoValued (if holds o c then One else Zero))
