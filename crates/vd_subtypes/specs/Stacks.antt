-- Values on a stack, whose top is the last of the list, as the defaults of subtypes are made.
use Rattle.std.specs.Prelude.{◌≡◌, ℕ, List, reverse}
use Rattle.vd_values.specs.declared.scalar.Scalar.{Scalar}
use Rattle.vd_composites.specs.declared.scalars.ScalarSubtype.{ScalarSubtype}
use Rattle.vd_composites.specs.Ranges.{from_left}
use Rattle.vd_composites.specs.Composites.{Value, Array, Fields, Items, none, item, items_of, first_of, without}
use Rattle.vd_composites.specs.Subtypes.{defaults_of}
use Rattle.vd_subtypes.specs.declared.subtypes.Node.{Node}
use Rattle.vd_subtypes.specs.Nodes.{read}
use Rattle.std.specs.Prelude.{◌∷◌}

abbrev pub from_top : List (Value Scalar) → Items Scalar
from_top vs = items_of (reverse vs)

-- the null array at the left bound of an index subtype
abbrev pub null_on : ScalarSubtype → Value Scalar
null_on index = Array (from_left index.range.left index.range.down 0) none

-- the record of so many values from the top of a stack, and what they leave
abbrev pub TakesRecord : ℕ → List (Value Scalar) → List (Value Scalar) → Value Scalar → Type 0
TakesRecord n old new v = (v ≡ Fields (first_of n (from_top old))) × (from_top new ≡ without n (from_top old))

-- Where the defaults of some subtypes stand on the stack, those with a node in front are the value and what it leaves.
abbrev pub Begins : Node → List (Value Scalar) → List (Value Scalar) → Value Scalar → Type 0
Begins node old new v = (ns : List Node) → from_top old ≡ defaults_of (read ns) → item v (from_top new) ≡ defaults_of (read (node ∷ ns))
