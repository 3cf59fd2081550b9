-- Generics of packages and functions, and instances of these. (IEEE 1076-2019, interface declarations; generic clauses; subprogram and package
-- instantiation declarations.) An instance means its package or function where each generic stands for its actual.
use Rattle.std.specs.Prelude.{ℕ, zero, suc, Bool, List, [], ◌∷◌, Option, Some, None, Ok, is_some, if◌then◌else◌}
use Rattle.vd_values.specs.declared.scalar.Scalar.{Scalar}
use Rattle.vd_composites.specs.Stops.{◌>>=◌}
use Rattle.vd_composites.specs.Composites.{Value}
use Rattle.vd_composites.specs.Subtypes.{Subtype, fit}
use Rattle.vd_environments.specs.Got.{Got, got, senseless}
use Rattle.vd_environments.specs.Environments.{Static, never, no_subtype, no_make, Argument, Function, GenericActual, Env, denoting, with_object, with_subtype, with_function, with_actual_function, with_instances, Indicated}
use Rattle.vd_environments.specs.Commands.{Command, acting}
use Rattle.vd_environments.specs.Functions.{called}
use Rattle.vd_meaning.specs.Tables.{Table, same_type, followed, actual_mark}
use Rattle.vd_meaning.specs.Operators.{function_of}
use Rattle.vd_meaning.specs.Names.{calls_known}
use Rattle.vd_meaning.specs.Facets.{Objects, Formal, FormalConstants, FormalType, FormalFunction, MapElement, Body}
use Rattle.vd_meaning.specs.Declarations.{constant_known, new_function}

-- ---- the element of a map for a generic: the one that names it, or the one at its place

abbrev pub named_element : ℕ → List MapElement → Option MapElement
named_element d [] = None
named_element d (x ∷ xs) = if same_type x.formal (Some d) then Some x else named_element d xs

abbrev pub unless_named : MapElement → Option MapElement
unless_named x = if is_some x.formal then None else Some x

abbrev pub nth_element : ℕ → List MapElement → Option MapElement
nth_element k [] = None
nth_element zero (x ∷ xs) = unless_named x
nth_element (suc k) (x ∷ xs) = nth_element k xs

abbrev pub or_placed : Option MapElement → Option MapElement → Option MapElement
or_placed None other = other
or_placed (Some x) other = Some x

abbrev pub unless_open : Option MapElement → Option MapElement
unless_open None = None
unless_open (Some x) = if x.is_open then None else Some x

abbrev pub element_for : ℕ → ℕ → List MapElement → Option MapElement
element_for k d xs = unless_open (or_placed (named_element d xs) (nth_element k xs))

-- ---- the actuals of an instance. Those of types and functions, also the ones that a default `<>` finds, stand in what the instance declares for
-- the generics; those of constants are expressions of the map.

abbrev pub value_in : Option MapElement → Env → Option Argument
value_in None e = None
value_in (Some x) e = Some (λ known. x.value known e)

abbrev pub value_known : Option MapElement → Env → Static
value_known None e = never
value_known (Some x) e = x.known e

abbrev pub actual_of : Table → Option MapElement → Env → ℕ → GenericActual
actual_of t x e copy =
    record {
      value = value_in x e;
      known = value_known x e;
      indicated = record { subtype = (e.denotes (actual_mark t copy)).subtype; make = (e.denotes (actual_mark t copy)).make };
      function = function_of t (followed t copy) e;
      calls = calls_known t (followed t copy) e;
    }

-- for generics in their order, of which the next one has this place
abbrev pub actuals_of : Table → ℕ → (generics copies : List ℕ) → List MapElement → Env → List GenericActual
actuals_of t k (d ∷ ds) (copy ∷ copies) xs e = actual_of t (element_for k d xs) e copy ∷ actuals_of t (suc k) ds copies xs e
actuals_of t k _ _ xs e = []

-- ---- generics stand for their actuals, one after the other, so that a later one's subtype and default see the earlier ones

abbrev pub constant_value : Option Argument → Option (Got Subtype → Env → Got (Value Scalar)) → Indicated → Env → Got (Value Scalar)
constant_value (Some a) default i e = a (Ok i.subtype)
constant_value None (Some default) i e = default (Ok i.subtype) e
constant_value None None i e = senseless

abbrev pub constant_static : Option Argument → Static → Static → Static
constant_static (Some a) actual default = actual
constant_static None actual default = default

-- the subtype, then the actual or the default, then its conversion to the subtype
abbrev pub with_constant : Objects → ℕ → GenericActual → Env → Got Env
with_constant o d a e =
    o.indicated e >>= λ i. constant_value a.value o.default i e >>= λ v. got (fit i.subtype v) >>= λ w.
    Ok (with_object d i.subtype i.make w (constant_known (constant_static a.value a.known (o.known e)) i e) e)

abbrev pub no_actual : GenericActual
no_actual = record { value = None; known = never; indicated = record { subtype = no_subtype; make = no_make }; function = λ _. senseless; calls = never }

abbrev pub next_actual : List GenericActual → GenericActual
next_actual [] = no_actual
next_actual (a ∷ as') = a

abbrev pub later_actuals : List GenericActual → List GenericActual
later_actuals [] = []
later_actuals (a ∷ as') = as'

-- constants that are declared together, and the actuals that are left behind them
abbrev pub with_constants : Objects → List ℕ → List GenericActual → Env → Got Env
with_constants o [] as' e = Ok e
with_constants o (d ∷ ds) as' e = with_constant o d (next_actual as') e >>= with_constants o ds (later_actuals as')

abbrev pub behind_constants : List ℕ → List GenericActual → List GenericActual
behind_constants [] as' = as'
behind_constants (d ∷ ds) as' = behind_constants ds (later_actuals as')

abbrev pub with_type : ℕ → Indicated → Env → Env
with_type d i e = with_subtype d i.subtype i.make e

abbrev pub with_generics : List Formal → List GenericActual → Env → Got Env
with_generics [] as' e = Ok e
with_generics (FormalConstants o ∷ fs) as' e = with_constants o o.numbers as' e >>= with_generics fs (behind_constants o.numbers as')
with_generics (FormalType d ∷ fs) as' e = with_generics fs (later_actuals as') (with_type d (next_actual as').indicated e)
with_generics (FormalFunction d ∷ fs) as' e =
    with_generics fs (later_actuals as') (with_actual_function d (next_actual as').function (next_actual as').calls e)

-- ---- what an instance of a package declares stands for what it is in the package, with these generics

abbrev pub taken : List (ℕ × ℕ) → Env → Env → Env
taken [] from e = e
taken (c ∷ cs) from e = taken cs from (denoting c.1 (from.denotes c.0) e)

-- ---- functions with generics: their generics are evaluated where an instance is declared, and not at its calls

abbrev pub instance_of : Body → Env → List GenericActual → Got Function
instance_of b e as' = with_generics b.generics as' e >>= λ f. Ok (called b.parameters (b.result f) b.statements f)

abbrev pub new_instances : Body → Command
new_instances b = acting (λ e. Ok (with_instances b.function (instance_of b e) e))

abbrev pub function_command : Bool → Body → Command
function_command has_generics b = if has_generics then new_instances b else new_function b

-- an instance of a function
abbrev pub new_instance : (function instance : ℕ) → (Env → List GenericActual) → Command
new_instance function instance actuals =
    acting (λ e. (e.denotes function).instance (actuals e) >>= λ f. Ok (with_function instance f e))
