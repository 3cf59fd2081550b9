-- What the answers of code say. The end is named by its cases, since its type is the code's.
use Rattle.std.specs.Prelude.{◌≡◌, ℕ, ◌+◌, List, ◌++◌, Some, Result, Ok, Err, Vec}
use Rattle.std.specs.Global.{Global}
use Rattle.vd_values.specs.declared.scalar.Scalar.{Scalar}
use Rattle.vd_composites.specs.declared.ends.ValueEnd.{ValueEnd}
use Rattle.vd_composites.specs.declared.ends.ValueEnd.TheVariants.{Stop, Memory}
use Rattle.vd_composites.specs.declared.nodes.Node.{Node}
use Rattle.vd_composites.specs.Stops.{OrStop}
use Rattle.vd_composites.specs.Composites.{Value, without, first_of, written}
use Rattle.vd_composites.specs.Nodes.{read, after, value_in}

-- The stop that is defined. Memory may run out at any time.
abbrev pub Ends : {A : Type 0} → ValueEnd → OrStop A → Type 0
Ends (Stop kind) g = g ≡ Err kind
Ends Memory g = Unit {0}

-- The value that is defined, or its stop.
abbrev pub Answers : Result (Value Scalar) ValueEnd → OrStop (Value Scalar) → Type 0
Answers (Ok v) g = g ≡ Ok v
Answers (Err end) g = Ends end g

-- What is defined, or its stop.
abbrev pub Found : {A : Type 0} → Result A ValueEnd → OrStop A → Type 0
Found (Ok x) g = g ≡ Ok x
Found (Err end) g = Ends end g

-- The list that is defined, or its stop.
abbrev pub ListAnswers : {A : Type 0} → Result (Vec A Global) ValueEnd → OrStop (List A) → Type 0
ListAnswers (Ok xs) g = g ≡ Ok xs.items
ListAnswers (Err end) g = Ends end g

-- some nodes behind these: those of so many items of a list, from a place on
pub record HasItems (front : List Node) (ns : List Node) (place items : ℕ) (made : List Node) : Type 0 where
  pub body : List Node
  pub behind : made ≡ front ++ body
  pub whole : after items body ≡ Some 0
  pub are : read body ≡ first_of items (without place (read ns))

-- the nodes of the value that is defined, or its stop
abbrev pub MadeNodes : Result (Vec Node Global) ValueEnd → OrStop (Value Scalar) → Type 0
MadeNodes (Ok ns) g = (after 1 ns.items ≡ Some 0) × (g ≡ Ok (value_in (read ns.items)))
MadeNodes (Err end) g = Ends end g

-- some nodes behind these: a list of items with others in the place of some, from a place on, of which as many are wanted as before
pub record Replaces (front : List Node) (ns : List Node) (place items : ℕ) (new made : List Node) : Type 0 where
  pub body : List Node
  pub behind : made ≡ front ++ body
  pub whole : (k : ℕ) → after (place + (items + k)) ns ≡ Some 0 → after (place + (items + k)) body ≡ Some 0
  pub are : read body ≡ written place (read new) (read ns)
