-- What declarations stand for while something is evaluated or run. (IEEE 1076, declarations; names.)
use Rattle.std.specs.Prelude.{ℕ, zero, suc, ◌==◌, pos, negsuc, Bool, true, false, not, ◌&&◌, ◌||◌, List, [], ◌∷◌, ◌++◌, Option, Some, None, Ok, if◌then◌else◌}
use Rattle.vd_values.specs.declared.scalar.Scalar.{Scalar}
use Rattle.vd_values.specs.declared.scalar.Scalar.TheVariants.{Literal}
use Rattle.vd_composites.specs.declared.scalars.ScalarType.{ScalarType}
use Rattle.vd_composites.specs.declared.scalars.ScalarType.TheVariants.{Enumeration}
use Rattle.vd_composites.specs.Stops.{◌>>=◌}
use Rattle.vd_composites.specs.Ranges.{is_within}
use Rattle.vd_composites.specs.Scalars.{position_of, is_of, whole_range}
use Rattle.vd_composites.specs.Composites.{Value, One, Array, Fields, Items, none, item}
use Rattle.vd_composites.specs.Parts.{Step}
use Rattle.vd_composites.specs.Subtypes.{Subtype, Scalars, Arrays}
use Rattle.vd_kernel.specs.Models.{View}
use Rattle.vd_environments.specs.Got.{Got, senseless}

-- ---- signals

-- A scalar signal, by its number in the design, with its type, and whether it is a port of mode `out` or an element of one with that mode.
pub record ScalarSignal : Type 0 where
  pub number : ℕ
  pub of_type : ScalarType
  pub is_out : Bool

-- a signal, or a part of one: its scalar signals in the shape of its values
abbrev pub Signals : Type 0
Signals = Value ScalarSignal

-- each leaf, from the left, or the first stop
abbrev mutual
  pub each_leaf : {L M : Type 0} → (L → Got M) → Value L → Got (Value M)
  each_leaf f (One x) = f x >>= λ y. Ok (One y)
  each_leaf f (Array b vs) = each_leaf_of f vs >>= λ ws. Ok (Array b ws)
  each_leaf f (Fields vs) = each_leaf_of f vs >>= λ ws. Ok (Fields ws)

  pub each_leaf_of : {L M : Type 0} → (L → Got M) → Items L → Got (Items M)
  each_leaf_of f none = Ok none
  each_leaf_of f (item v vs) = each_leaf f v >>= λ w. each_leaf_of f vs >>= λ ws. Ok (item w ws)

-- A scalar signal has a value of its type, in and out of its subtype: a port may have the value of an actual with other bounds.
abbrev pub of_the_type : ScalarType → Scalar → Got Scalar
of_the_type t x = if is_of t x && is_within (whole_range t) (position_of x) then Ok x else senseless

-- the effective value of a signal or a part of one
abbrev pub read : View → Signals → Got (Value Scalar)
read view s = each_leaf (λ x. of_the_type x.of_type (view.value x.number)) s

-- ---- static expressions (IEEE 1076-2019, 9.4; IEEE 1076-1993, 7.4)

-- Whether something is known when the text is analysed, and whether it is known in elaboration wherever its text stands. What names something
-- that is declared inside a process or a function is known in elaboration only where it is known when the text is analysed.
pub record Static : Type 0 where
  pub is_local : Bool
  pub is_global : Bool

abbrev pub always : Static
always = record { is_local = true; is_global = true }

abbrev pub never : Static
never = record { is_local = false; is_global = false }

abbrev pub both : Static → Static → Static
both s t = record { is_local = s.is_local && t.is_local; is_global = s.is_global && t.is_global }

abbrev pub all_static : List Static → Static
all_static [] = always
all_static (s ∷ ss) = both s (all_static ss)

abbrev pub only_global : Static → Static
only_global s = record { is_local = false; is_global = s.is_global }

abbrev pub is_static : Static → Bool
is_static s = s.is_local || s.is_global

-- ---- what subtypes are made of beside their bounds

-- Of a scalar the literals of its type, as they are written, and whether signals of it are resolved; of an array the literals of its index type;
-- of a record the names of its fields. And of a range and of the bounds of an array how static they are.
pub record ScalarMake : Type 0 where
  pub literals : List (List ℕ)
  pub is_resolved : Bool

mutual
  pub data Make : Type 0 where
    OfScalar : (scalar : ScalarMake) (range : Static) → Make
    OfElements : (index : List (List ℕ)) (bounds : Static) (element : Make) → Make
    OfFields : (fields : Makes) → Make

  pub data Makes : Type 0 where
    no_makes : Makes
    and_make : (name : List ℕ) (first : Make) (rest : Makes) → Makes

abbrev pub no_make : Make
no_make = OfScalar (record { literals = []; is_resolved = false }) never

-- of its own bounds or range, and of all bounds in it
abbrev pub own_bounds : Make → Static
own_bounds (OfScalar scalar range) = range
own_bounds (OfElements index bounds element) = bounds
own_bounds (OfFields fields) = always

abbrev mutual
  pub all_bounds : Make → Static
  all_bounds (OfScalar scalar range) = range
  all_bounds (OfElements index bounds element) = both bounds (all_bounds element)
  all_bounds (OfFields fields) = bounds_of_fields fields

  pub bounds_of_fields : Makes → Static
  bounds_of_fields no_makes = always
  bounds_of_fields (and_make name m ms) = both (all_bounds m) (bounds_of_fields ms)

-- with a constraint
abbrev pub made_narrower : Static → Make → Make
made_narrower s (OfScalar scalar range) = OfScalar scalar (both s range)
made_narrower s (OfElements index bounds element) = OfElements index (both s bounds) element
made_narrower s (OfFields fields) = OfFields fields

abbrev pub element_make : Make → Make
element_make (OfElements index bounds element) = element
element_make _ = no_make

-- Of a slice with such bounds. The bounds of what is declared inside a process or a function, and so of its slices, are known in elaboration only
-- where they are known when the text is analysed.
abbrev pub sliced_make : Static → Make → Make
sliced_make known (OfElements index bounds element) = OfElements index (record known { is_global = known.is_global && bounds.is_global }) element
sliced_make known _ = no_make

abbrev pub nth_make : ℕ → Makes → Make
nth_make n no_makes = no_make
nth_make zero (and_make name m ms) = m
nth_make (suc n) (and_make name m ms) = nth_make n ms

abbrev pub field_make : ℕ → Make → Make
field_make n (OfFields fields) = nth_make n fields
field_make n _ = no_make

abbrev pub literals_of : Make → List (List ℕ)
literals_of (OfScalar scalar range) = scalar.literals
literals_of _ = []

-- All bounds of what is declared inside a process or a function.
abbrev mutual
  pub made_inside : Make → Make
  made_inside (OfScalar scalar range) = OfScalar scalar (record range { is_global = false })
  made_inside (OfElements index bounds element) = OfElements index (record bounds { is_global = false }) (made_inside element)
  made_inside (OfFields fields) = OfFields (all_made_inside fields)

  pub all_made_inside : Makes → Makes
  all_made_inside no_makes = no_makes
  all_made_inside (and_make name m ms) = and_make name (made_inside m) (all_made_inside ms)

-- ---- declarations

-- An argument of a function: its value where the subtype of the parameter is known.
abbrev pub Argument : Type 0
Argument = Got Subtype → Got (Value Scalar)

-- where the place of an expression gives no subtype
abbrev pub unknown : Got Subtype
unknown = senseless

abbrev pub Function : Type 0
Function = List Argument → Got (Value Scalar)

-- a subtype with what it is made of
pub record Indicated : Type 0 where
  pub subtype : Subtype
  pub make : Make

-- What an instance has for a generic: of a constant the value where the subtype is known, unless the default stands for it, and how static it is;
-- of a type the subtype; of a function what it gives, and how static its calls can be.
pub record GenericActual : Type 0 where
  pub value : Option Argument
  pub known : Static
  pub indicated : Indicated
  pub function : Function
  pub calls : Static

-- What a declaration stands for.
pub record Denotation : Type 0 where
  -- of a constant, a generic, a variable, a parameter: its value
  pub value : Value Scalar
  -- of a type or subtype: itself; of an object: its subtype
  pub subtype : Subtype
  pub make : Make
  -- of a function: what it gives for arguments
  pub function : Function
  -- of a function with generics: the function that an instance with some actuals is
  pub instance : List GenericActual → Got Function
  -- of a signal or a port: its scalar signals
  pub signals : Option Signals
  -- whether its value is static, and of a function whether calls of it can be
  pub known : Static

abbrev pub no_subtype : Subtype
no_subtype = Scalars (record { of_type = Enumeration 0; range = record { left = pos 0; right = negsuc 0; down = false } })

-- what stands for nothing
abbrev pub nothing_denoted : Denotation
nothing_denoted =
    record {
      value = One (Literal 0);
      subtype = no_subtype;
      make = no_make;
      function = λ _. senseless;
      instance = λ _. senseless;
      signals = None;
      known = never;
    }

-- What each declaration stands for, by its number, and what is seen and driven.
pub record Env : Type 0 where
  pub denotes : ℕ → Denotation
  -- of a scalar signal that a process drives, the number of its driver
  pub drivers : ℕ → Option ℕ
  pub view : View
  -- whether it is inside a process or a function
  pub is_inside : Bool
  -- of a function, the subtype of its result
  pub result : Subtype

-- ---- changes

abbrev pub with_entry : {A : Type 0} → ℕ → A → (ℕ → A) → ℕ → A
with_entry n x table m = if m == n then x else table m

abbrev pub denoting : ℕ → Denotation → Env → Env
denoting n d e = record e { denotes = with_entry n d e.denotes }

-- a variable, or the parameter of a loop, with a new value
abbrev pub with_value : ℕ → Value Scalar → Env → Env
with_value n v e = denoting n (record (e.denotes n) { value = v }) e

-- what is declared here is known outside of it only where it is declared outside
abbrev pub made_here : Env → Make → Make
made_here e make = if e.is_inside then made_inside make else make

-- An object of an unconstrained array type has bounds that no text gives: those of its value.
abbrev pub bounds_of_object : Subtype → Make → Make
bounds_of_object (Arrays index None element) (OfElements literals bounds make) = OfElements literals (only_global bounds) make
bounds_of_object _ make = make

-- an object of a subtype, with a value
abbrev pub with_object : ℕ → Subtype → Make → Value Scalar → Static → Env → Env
with_object n s make v known e =
    denoting n (record nothing_denoted { value = v; subtype = s; make = made_here e (bounds_of_object s make); known = known }) e

abbrev pub with_subtype : ℕ → Subtype → Make → Env → Env
with_subtype n s make e = denoting n (record nothing_denoted { subtype = s; make = made_here e make }) e

abbrev pub with_function : ℕ → Function → Env → Env
with_function n f e = denoting n (record nothing_denoted { function = f; known = record { is_local = false; is_global = not e.is_inside } }) e

-- a function that is a generic, with what calls of its actual are
abbrev pub with_actual_function : ℕ → Function → Static → Env → Env
with_actual_function n f calls e = denoting n (record nothing_denoted { function = f; known = calls }) e

-- a function with generics
abbrev pub with_instances : ℕ → (List GenericActual → Got Function) → Env → Env
with_instances n instance e = denoting n (record nothing_denoted { instance = instance }) e

abbrev pub with_signals : ℕ → Subtype → Make → Signals → Env → Env
with_signals n s make signals e = denoting n (record nothing_denoted { subtype = s; make = make; signals = Some signals }) e

abbrev pub seeing : View → Env → Env
seeing v e = record e { view = v }

abbrev pub inside : Env → Env
inside e = record e { is_inside = true }

-- ---- objects and their parts

-- a variable, and the steps to a part of it
pub record Place : Type 0 where
  pub object : ℕ
  pub steps : List Step

abbrev pub further : Step → Place → Place
further step p = record { object = p.object; steps = p.steps ++ step ∷ [] }

-- a field of a record type
pub record Field : Type 0 where
  pub name : List ℕ
  pub indicated : Indicated

abbrev pub or_senseless : {A : Type 0} → Option A → Got A
or_senseless None = senseless
or_senseless (Some x) = Ok x
