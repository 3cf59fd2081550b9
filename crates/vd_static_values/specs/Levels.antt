-- Conversions of arrays of arrays, level by level. (IEEE 1076, type conversions.) The elements of all arrays of a level are the level inside it.
use Rattle.std.specs.Prelude.{List, None, Ok, Option, Some, Vec, [], drop, false, map, take, ℕ, ℤ, ◌++◌, ◌∷◌, ◌≡◌}
use Rattle.std.specs.Global.{Global}
use Rattle.vd_composites.specs.Composites.{Array, Value, count, items_in, items_of, joined, listed}
use Rattle.vd_composites.specs.Ranges.{length_of}
use Rattle.vd_composites.specs.declared.ranges.Bounds.{Bounds}
use Rattle.vd_composites.specs.Stops.{◌>>=◌}
use Rattle.vd_composites.specs.Subtypes.{Arrays, Subtype}
use Rattle.vd_environments.specs.Got.{Got, all_got, is_got}
use Rattle.vd_meaning.specs.Names.{converted, whole_converted, with_elements}
use Rattle.vd_static_values.specs.declared.elements.Halves.{Halves}
use Rattle.vd_static_values.specs.declared.converting.Levels.{Levels}
use Rattle.vd_values.specs.declared.scalar.Scalar.{Scalar}

abbrev pub up : ℤ → ℤ → Bounds
up left right = record { left = left; right = right; down = false }

-- ---- elements

-- those of some arrays, from the left
abbrev pub elements_of : List (Value Scalar) → List (Value Scalar)
elements_of [] = []
elements_of (v ∷ vs) = listed (items_in v) ++ elements_of vs

-- an array with as many elements as its bounds give
abbrev pub IsSized : Value Scalar → Type 0
IsSized (Array b vs) = count vs ≡ length_of b
IsSized _ = ⊥

abbrev pub AreSized : List (Value Scalar) → Type 0
AreSized [] = Unit {0}
AreSized (v ∷ vs) = IsSized v × AreSized vs

-- the elements of an array under other bounds
pub record IsCounted (array made : Value Scalar) : Type 0 where
  pub own : IsSized array
  pub sized : IsSized made
  pub elements : items_in made ≡ items_in array

-- some arrays with the elements of others
pub record HaveElements (arrays made : List (Value Scalar)) : Type 0 where
  pub sized : AreSized made
  pub elements : elements_of made ≡ elements_of arrays

-- more arrays, with the elements of one more
pub record AddsElements (old new : List (Value Scalar)) (array : Value Scalar) : Type 0 where
  pub sized : AreSized old → AreSized new
  pub elements : elements_of new ≡ elements_of old ++ listed (items_in array)

abbrev pub AreHalves : Option Halves → Value Scalar → Type 0
AreHalves None v = Unit {0}
AreHalves (Some h) v = IsSized h.first × IsSized h.second × (joined (items_in h.first) (items_in h.second) ≡ items_in v)

-- ---- arrays with other elements

-- how many its bounds give
abbrev pub size_of_array : Value Scalar → ℕ
size_of_array (Array b vs) = length_of b
size_of_array _ = 0

abbrev pub holding : Value Scalar → List (Value Scalar) → Value Scalar
holding (Array b vs) ws = Array b (items_of ws)
holding v ws = v

-- some arrays, from the left, with these elements
abbrev pub regrouped : List (Value Scalar) → List (Value Scalar) → List (Value Scalar)
regrouped [] ws = []
regrouped (v ∷ vs) ws = holding v (take (size_of_array v) ws) ∷ regrouped vs (drop (size_of_array v) ws)

-- the arrays of all levels, the outermost first, with these elements in the innermost
abbrev pub closed : List (List (Value Scalar)) → List (Value Scalar) → List (Value Scalar)
closed [] ws = ws
closed (arrays ∷ outer) ws = regrouped arrays (closed outer ws)

-- ---- conversions

-- of a value that was made one of the subtype already, what is left to do
abbrev pub inside_converted : Subtype → Value Scalar → Got (Value Scalar)
inside_converted (Arrays index bounds element) v = with_elements (converted element) v
inside_converted s v = Ok v

-- each value made one of a subtype
abbrev pub all_whole : Subtype → List (Value Scalar) → Got (List (Value Scalar))
all_whole s vs = all_got (map (whole_converted s) vs)

abbrev pub lists_in : List (Vec (Value Scalar) Global) → List (List (Value Scalar))
lists_in vs = map (λ v. v.items) vs

-- the levels of the one value that is defined, or nothing where it stops
abbrev pub IsOpened : Option Levels → Got (Value Scalar) → Type 0
IsOpened None g = is_got g ≡ false
IsOpened (Some levels) g = (g >>= λ v. Ok (v ∷ [])) ≡ Ok (closed (lists_in levels.outer.items) levels.inner.items)
