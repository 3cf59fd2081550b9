-- What declarations declare. (IEEE 1076, declarations; types; subtypes; elaboration of declarations.)
use Rattle.std.specs.Prelude.{ℕ, Bool, true, false, not, ◌&&◌, List, [], ◌∷◌, ◌++◌, length, map, Option, Some, None, Ok, Err, if◌then◌else◌}
use Rattle.vd_values.specs.declared.scalar.Scalar.{Scalar}
use Rattle.vd_composites.specs.declared.ranges.Bounds.{Bounds}
use Rattle.vd_composites.specs.declared.scalars.ScalarType.{ScalarType}
use Rattle.vd_composites.specs.declared.scalars.ScalarType.TheVariants.{Enumeration}
use Rattle.vd_composites.specs.declared.scalars.ScalarSubtype.{ScalarSubtype}
use Rattle.vd_composites.specs.Stops.{◌>>=◌}
use Rattle.vd_composites.specs.Scalars.{whole_range}
use Rattle.vd_composites.specs.Composites.{Value}
use Rattle.vd_composites.specs.Subtypes.{Subtype, Scalars, Arrays, Records, Subtypes, no_more, and_more, fit, default_of, constrained}
use Rattle.vd_environments.specs.Got.{Got, got}
use Rattle.vd_environments.specs.Environments.{Static, always, never, OfScalar, OfElements, OfFields, Makes, no_makes, and_make, Make, made_narrower, own_bounds, all_bounds, literals_of, Env, with_object, with_subtype, with_function, Indicated, Field, or_senseless}
use Rattle.vd_environments.specs.Commands.{Command, acting}
use Rattle.vd_environments.specs.Functions.{Parameter, called}
use Rattle.vd_environments.specs.Processes.{settled_by}
use Rattle.vd_meaning.specs.Names.{scalars_of, scalar_type}
use Rattle.vd_meaning.specs.Facets.{Meaning, Objects, Body}

-- ---- subtype indications

-- the subtype of a mark
abbrev pub indicated_mark : Option ℕ → Env → Got Indicated
indicated_mark mark e = or_senseless mark >>= λ d. Ok (record { subtype = (e.denotes d).subtype; make = (e.denotes d).make })

-- with a constraint, where there is one
abbrev pub narrower : Meaning → Env → Indicated → Got Indicated
narrower constraint e i =
    or_senseless constraint.range >>= λ range. range e >>= λ b. got (constrained i.subtype b) >>= λ s.
    Ok (record { subtype = s; make = made_narrower (constraint.known e) i.make })

abbrev pub indication : Option ℕ → Meaning → Env → Got Indicated
indication mark constraint e =
    indicated_mark mark e >>= λ i. if constraint.is_present then narrower constraint e i else Ok i

-- ---- types

abbrev pub whole : ScalarType → ScalarSubtype
whole t = record { of_type = t; range = whole_range t }

abbrev pub enumeration : List (List ℕ) → Indicated
enumeration literals =
    record {
      subtype = Scalars (whole (Enumeration (length literals)));
      make = OfScalar (record { literals = literals; is_resolved = false }) always;
    }

-- An array type of any bounds has the index subtype of a mark; another one has a range, which is its index subtype and its bounds.
abbrev pub unconstrained_array : ScalarSubtype → Make → Indicated → Indicated
unconstrained_array index make element =
    record { subtype = Arrays index None element.subtype; make = OfElements (literals_of make) (own_bounds make) element.make }

abbrev pub constrained_array : ScalarType → Bounds → List (List ℕ) → Static → Indicated → Indicated
constrained_array t b literals known element =
    record { subtype = Arrays (record { of_type = t; range = b }) (Some b) element.subtype; make = OfElements literals known element.make }

-- the literals of a type
abbrev pub literals_in : Option ℕ → Env → List (List ℕ)
literals_in None e = []
literals_in (Some d) e = literals_of (e.denotes d).make

-- the index, then the elements
abbrev pub array_type : Meaning → Meaning → Env → Got Indicated
array_type index element e =
    if index.is_open
    then (index.name.subtype e >>= scalars_of >>= λ s. element.indicated e >>= λ i. Ok (unconstrained_array s (index.name.make e) i))
    else (scalar_type index.mark e >>= λ t. or_senseless index.range >>= λ range. range e >>= λ b. element.indicated e >>= λ i.
    Ok (constrained_array t b (literals_in index.mark e) (index.known e) i))

abbrev pub subtypes_of : List Field → Subtypes
subtypes_of [] = no_more
subtypes_of (f ∷ fs) = and_more f.indicated.subtype (subtypes_of fs)

abbrev pub makes_of : List Field → Makes
makes_of [] = no_makes
makes_of (f ∷ fs) = and_make f.name f.indicated.make (makes_of fs)

abbrev pub record_type : List Field → Indicated
record_type fields = record { subtype = Records (subtypes_of fields); make = OfFields (makes_of fields) }

-- a field for each name
abbrev pub fields_named : List (List ℕ) → Indicated → List Field
fields_named names i = map (λ n. record { name = n; indicated = i }) names

abbrev pub all_fields : List Meaning → Env → Got (List Field)
all_fields [] e = Ok []
all_fields (m ∷ ms) e = m.fields e >>= λ xs. all_fields ms e >>= λ ys. Ok (xs ++ ys)

abbrev pub new_type : ℕ → (Env → Got Indicated) → Command
new_type n indicated = acting (λ e. indicated e >>= λ i. Ok (with_subtype n i.subtype i.make e))

-- ---- objects

abbrev pub with_objects : List ℕ → Indicated → Value Scalar → Static → Env → Env
with_objects [] i v known e = e
with_objects (n ∷ ns) i v known e = with_objects ns i v known (with_object n i.subtype i.make v known e)

-- the initial value as one of the subtype, or the leftmost value of the subtype
abbrev pub initial_value : Meaning → Indicated → Env → Got (Value Scalar)
initial_value m i e = if m.is_present then (m.value (Ok i.subtype) e >>= λ v. got (fit i.subtype v)) else Ok (default_of i.subtype)

-- Whether the value is known early: locally where the initial value and all bounds of the subtype are, and there are bounds; else outside of
-- processes and functions.
abbrev pub has_bounds : Subtype → Bool
has_bounds (Arrays index None element) = false
has_bounds _ = true

abbrev pub constant_known : Static → Indicated → Env → Static
constant_known value i e =
    record { is_local = value.is_local && (all_bounds i.make).is_local && has_bounds i.subtype; is_global = not e.is_inside }

-- the subtype, then the initial value
abbrev pub new_constants : List ℕ → Meaning → Meaning → Command
new_constants ns indicated m =
    acting (λ e. indicated.indicated e >>= λ i. initial_value m i e >>= λ v. Ok (with_objects ns i v (constant_known (m.known e) i e) e))

abbrev pub new_variables : List ℕ → Meaning → Meaning → Command
new_variables ns indicated m = acting (λ e. indicated.indicated e >>= λ i. initial_value m i e >>= λ v. Ok (with_objects ns i v never e))

-- For the names of their process, which are evaluated before: an object whose initial value stops has the leftmost value of its subtype, and isn't
-- static. So attributes of its bounds are what they are with any other value. A subtype that stops declares nothing.
abbrev pub with_settled : List ℕ → Indicated → Got (Value Scalar) → Static → Env → Env
with_settled ns i (Ok v) known e = with_objects ns i v known e
with_settled ns i (Err s) known e = with_objects ns i (default_of i.subtype) never e

abbrev pub settled_constants : List ℕ → Meaning → Meaning → Env → Env
settled_constants ns indicated m =
    settled_by (acting (λ e. indicated.indicated e >>= λ i. Ok (with_settled ns i (initial_value m i e) (constant_known (m.known e) i e) e)))

abbrev pub settled_variables : List ℕ → Meaning → Meaning → Env → Env
settled_variables ns indicated m =
    settled_by (acting (λ e. indicated.indicated e >>= λ i. Ok (with_settled ns i (initial_value m i e) never e)))

abbrev pub new_objects : List ℕ → Meaning → Meaning → Objects
new_objects ns indicated m =
    record { numbers = ns; indicated = indicated.indicated; default = if m.is_present then Some m.value else None; known = m.known }

-- ---- functions

abbrev pub parameters_for : List ℕ → Meaning → List Parameter
parameters_for ns indicated = map (λ n. record { object = n; indicated = indicated.indicated }) ns

-- A function sees what stands round its body.
abbrev pub new_function : Body → Command
new_function b = acting (λ e. Ok (with_function b.function (called b.parameters (b.result e) b.statements e) e))
