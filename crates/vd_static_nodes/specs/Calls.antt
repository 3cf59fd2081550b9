-- Calls of functions that look at a signal. (IEEE 1164, rising_edge and falling_edge.)
use Rattle.std.specs.Prelude.{Bool, false, true}
use Rattle.vd_meaning.specs.Operators.{Edge, Operation}

abbrev pub is_edge : Operation → Bool
is_edge (Edge rising) = true
is_edge _ = false
