-- Arrays of one dimension by the positions of their elements. (IEEE 1076-2019, 5.3.2; IEEE 1076-1993, 3.2.1.)
use Rattle.std.specs.Prelude.{ℕ, ℤ, pos, Bool, false, ◌==◌, List, [], ◌∷◌, Ok}
use Rattle.vd_values.specs.declared.scalar.Scalar.{Scalar}
use Rattle.vd_values.specs.declared.scalar.Scalar.TheVariants.{Integer, Literal, Time}
use Rattle.vd_composites.specs.declared.ranges.Bounds.{Bounds}
use Rattle.vd_composites.specs.declared.nodes.Node.{Node}
use Rattle.vd_composites.specs.declared.vectors.Elements.{Elements}
use Rattle.vd_composites.specs.declared.vectors.Elements.TheVariants.{Discrete, Literals}
use Rattle.vd_composites.specs.declared.nodes.Node.TheVariants.{Integer as IntegerNode, Literal as LiteralNode, Time as TimeNode, Array as ArrayNode, Right, Fields as FieldsNode}
use Rattle.vd_composites.specs.Stops.{OrStop, ◌>>=◌}
use Rattle.vd_composites.specs.Ranges.{length_of}
use Rattle.vd_composites.specs.Scalars.{same_scalar}
use Rattle.vd_composites.specs.Composites.{Value, One, Array, Items, none, item}
use Rattle.vd_composites.specs.Nodes.{bounds_from}
use Rattle.vd_composites.specs.Parts.{misshapen}

-- An integer is a discrete value, and no literal.
abbrev pub integer_position : Elements → ℤ → OrStop ℤ
integer_position Discrete x = Ok x
integer_position Literals x = misshapen

-- the position of a discrete value, that is of an integer or a literal, or of a literal alone
abbrev pub position_as : Elements → Scalar → OrStop ℤ
position_as of (Integer x) = integer_position of x
position_as of (Literal n) = Ok (pos n)
position_as of (Time t) = misshapen

abbrev pub literal_position : Scalar → OrStop ℤ
literal_position x = position_as Literals x

-- the positions of items
abbrev pub positions_in : Elements → Items Scalar → OrStop (List ℤ)
positions_in of none = Ok []
positions_in of (item (One x) vs) = position_as of x >>= λ p. positions_in of vs >>= λ ps. Ok (p ∷ ps)
positions_in of (item _ vs) = misshapen

abbrev pub literal_positions_in : Items Scalar → OrStop (List ℤ)
literal_positions_in vs = positions_in Literals vs

-- the positions of the elements of an array, from the left
abbrev pub positions_as : Elements → Value Scalar → OrStop (List ℤ)
positions_as of (Array b vs) = positions_in of vs
positions_as of _ = misshapen

-- those of an array of discrete elements, and of one of literals
abbrev pub positions_of : Value Scalar → OrStop (List ℤ)
positions_of v = positions_as Discrete v

abbrev pub literal_positions_of : Value Scalar → OrStop (List ℤ)
literal_positions_of v = positions_as Literals v

-- literals of an enumeration type at these positions
abbrev pub literals : List ℕ → Items Scalar
literals [] = none
literals (n ∷ ns) = item (One (Literal n)) (literals ns)

-- ---- over nodes

abbrev pub node_position : Elements → Node → OrStop ℤ
node_position of (IntegerNode x) = integer_position of x
node_position of (LiteralNode n) = Ok (pos n)
node_position of _ = misshapen

abbrev pub positions_at : Elements → List Node → OrStop (List ℤ)
positions_at of [] = Ok []
positions_at of (n ∷ ns) = node_position of n >>= λ p. positions_at of ns >>= λ ps. Ok (p ∷ ps)

-- what begins with some nodes: a scalar value, an array with its bounds, a record with so many fields, or nothing
pub data First : Type 0 where
  AScalar : (value : Scalar) → First
  AnArray : (bounds : Bounds) → First
  ARecord : (fields : ℕ) → First
  Nothing : First

abbrev pub first_in : List Node → First
first_in (IntegerNode x ∷ ns) = AScalar (Integer x)
first_in (LiteralNode n ∷ ns) = AScalar (Literal n)
first_in (TimeNode t ∷ ns) = AScalar (Time t)
first_in (ArrayNode left down ∷ Right right ∷ ns) = AnArray (bounds_from left down right)
first_in (FieldsNode n ∷ ns) = ARecord n
first_in _ = Nothing

-- whether two items may be equal by their beginnings: one scalar value, or equally many elements or fields
abbrev pub same_first : First → First → Bool
same_first (AScalar x) (AScalar y) = same_scalar x y
same_first (AnArray b) (AnArray c) = length_of b == length_of c
same_first (ARecord m) (ARecord n) = m == n
same_first _ _ = false
