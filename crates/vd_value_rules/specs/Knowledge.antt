-- What is known of declarations before elaboration. Constants with locally static values have them, subtypes with locally static bounds have
-- these; the values and bounds of all else are known later, and denoted as not locally static. (IEEE 1076, static expressions; declarations.)
-- Declarations have numbers of their own in the design. So what an architecture or a package body takes over from its entity or package is what
-- these have declared, under their numbers.
use Rattle.std.specs.Prelude.{Bool, Err, List, None, Ok, Option, Some, [], false, if◌then◌else◌, not, pos, true, ℕ, ◌&&◌, ◌++◌, ◌∷◌}
use Rattle.vd_composites.specs.Composites.{Value}
use Rattle.vd_composites.specs.Scalars.{whole_range}
use Rattle.vd_composites.specs.Stops.{◌>>=◌}
use Rattle.vd_composites.specs.Subtypes.{Arrays, Scalars, Subtype, constrained, default_of, fit}
use Rattle.vd_composites.specs.declared.ranges.Bounds.{Bounds}
use Rattle.vd_composites.specs.declared.scalars.ScalarType.TheVariants.{Integers}
use Rattle.vd_meaning.specs.NodeFacets.{View}
use Rattle.vd_meaning.specs.Instances.{view_in}
use Rattle.vd_meaning.specs.Layouts.{layout, numbered}
use Rattle.vd_environments.specs.Environments.{Argument, Denotation, Env, Field, Indicated, Make, OfElements, OfScalar, Signals, Static, always, denoting, made_narrower, nothing_denoted, or_senseless, with_object, with_signals}
use Rattle.vd_environments.specs.Got.{Got, got, senseless}
use Rattle.vd_forest.specs.Forest.{Forest, more, nothing, parts_of, skipped}
use Rattle.vd_forms.specs.declared.form.Form.{Form}
use Rattle.vd_meaning.specs.Declarations.{constant_known, constrained_array, enumeration, fields_named, literals_in, record_type, unconstrained_array}
use Rattle.vd_meaning.specs.Facets.{Meaning, flattened, nth}
use Rattle.vd_meaning.specs.Given.{given_env}
use Rattle.vd_meaning.specs.Meanings.{meanings}
use Rattle.vd_meaning.specs.Names.{Named, scalar_type, scalars_of}
use Rattle.vd_resolved.specs.declared.node.Resolved.{Resolved}
use Rattle.vd_value_rules.specs.Designs.{Design}
use Rattle.vd_values.specs.declared.scalar.Scalar.{Scalar}
use Rattle.vd_values.specs.declared.scalar.Scalar.TheVariants.{Literal}
use Rattle.vd_forms.specs.declared.form.Form.TheVariants as form

-- Beside the environment there is one for choices, in which a resolved subtype with a range that a user wrote has all values of its type. Of a
-- package with generics, of a function with generics and of one that is declared without body it is known what their texts are.
pub record Known : Type 0 where
  pub env : Env
  pub choosing : Env
  pub packages : ℕ → Forest Resolved
  pub functions : ℕ → Forest Resolved

-- one of the two environments
abbrev pub seen : Bool → Known → Env
seen choosing k = if choosing then k.choosing else k.env

abbrev pub both_changed : (Env → Env) → Known → Known
both_changed f k = record k { env = f k.env; choosing = f k.choosing }

abbrev pub denoted : ℕ → Denotation → Denotation → Known → Known
denoted n own choosing k = record k { env = denoting n own k.env; choosing = denoting n choosing k.choosing }

-- what is known where a design begins
abbrev pub nothing_known : Known
nothing_known =
    record { env = given_env (λ _. Literal 0); choosing = given_env (λ _. Literal 0); packages = λ _. nothing; functions = λ _. nothing }

-- ---- parts of trees

-- the parts of the part with a number, and what that part means
abbrev pub parts_at : ℕ → Forest Resolved → Forest Resolved
parts_at n parts = parts_of (skipped n parts)

abbrev pub meaning_at : Design → ℕ → Forest Resolved → Meaning
meaning_at d n parts = nth n (meanings d.table parts)

-- ---- subtype indications

abbrev pub indicated_of : Denotation → Indicated
indicated_of x = record { subtype = x.subtype; make = x.make }

-- the subtype of a mark
abbrev pub at_mark : Option ℕ → Env → Indicated
at_mark None e = indicated_of nothing_denoted
at_mark (Some n) e = indicated_of (e.denotes n)

-- what is known later isn't known when the text is analysed
abbrev pub later : Static → Static
later s = record s { is_local = false }

-- bounds that are known later stand as null ones
abbrev pub later_bounds : Bounds
later_bounds = record { left = pos 1; right = pos 0; down = false }

abbrev pub bounded_later : Subtype → Subtype
bounded_later (Arrays index bounds element) = Arrays index (Some later_bounds) element
bounded_later s = s

-- a range, where it is locally static
abbrev pub early_range : Meaning → Env → Got Bounds
early_range m e = if (m.known e).is_local then (or_senseless m.range >>= λ range. range e) else senseless

abbrev pub or_later : Got Subtype → Static → Indicated → Indicated
or_later (Ok s) known i = record { subtype = s; make = made_narrower known i.make }
or_later (Err halt) known i = record { subtype = bounded_later i.subtype; make = made_narrower (later known) i.make }

abbrev pub constrained_by : Meaning → Env → Indicated → Indicated
constrained_by m e i = or_later (early_range m e >>= λ b. got (constrained i.subtype b)) (m.known e) i

abbrev pub is_resolved : Make → Bool
is_resolved (OfScalar scalar range) = scalar.is_resolved
is_resolved _ = false

-- all values of the type
abbrev pub widened_make : Make → Make
widened_make (OfScalar scalar range) = OfScalar scalar always
widened_make make = make

abbrev pub widened_subtype : Subtype → Subtype
widened_subtype (Scalars s) = Scalars (record s { range = whole_range s.of_type })
widened_subtype s = s

abbrev pub widened : Indicated → Indicated
widened i = record { subtype = widened_subtype i.subtype; make = widened_make i.make }

abbrev pub with_constraint : Bool → Meaning → Env → Indicated → Indicated
with_constraint choosing m e i = if choosing && is_resolved i.make then widened i else constrained_by m e i

-- what a subtype indication with these parts indicates, for choices or else
abbrev pub indicated : Design → Bool → Known → Forest Resolved → Indicated
indicated d choosing k parts =
    let i = at_mark (meaning_at d 0 parts).declaration (seen choosing k) in
    if (meaning_at d 1 parts).is_present then with_constraint choosing (meaning_at d 1 parts) k.env i else i

-- ---- types

abbrev pub array_or_later : Got Indicated → Static → Indicated → Indicated
array_or_later (Ok i) known element = i
array_or_later (Err halt) known element =
    record {
      subtype = Arrays (record { of_type = Integers; range = whole_range Integers }) (Some later_bounds) element.subtype;
      make = OfElements [] (later known) element.make;
    }

-- the subtype of a name, where it hangs on what is locally static alone
abbrev pub early_subtype : Named → Env → Got Subtype
early_subtype p e = if p.local_slices e then p.subtype e else senseless

-- an array type of any bounds, and one with a range
abbrev pub any_bounds : Meaning → Env → Indicated → Got Indicated
any_bounds index e element =
    early_subtype index.name e >>= scalars_of >>= λ s. Ok (unconstrained_array s (index.name.make e) element)

abbrev pub own_range : Meaning → Env → Indicated → Got Indicated
own_range index e element =
    scalar_type index.mark e >>= λ t. early_range index e >>= λ b. Ok (constrained_array t b (literals_in index.mark e) (index.known e) element)

abbrev pub array_defined : Meaning → Env → Indicated → Indicated
array_defined index e element =
    array_or_later (if index.is_open then any_bounds index e element else own_range index e element) (index.known e) element

abbrev pub fields_defined : Design → Bool → Known → Forest Resolved → List Field
fields_defined d choosing k nothing = []
fields_defined d choosing k (more n text place parts next) =
    fields_named (meaning_at d 0 parts).texts (indicated d choosing k (parts_at 1 parts)) ++ fields_defined d choosing k next

abbrev pub type_of_form : Form → Design → Bool → Known → Forest Resolved → Indicated
type_of_form form.ArrayType d choosing k parts = array_defined (meaning_at d 0 parts) k.env (indicated d choosing k (parts_at 1 parts))
type_of_form form.RecordType d choosing k parts = record_type (fields_defined d choosing k (parts_at 0 parts))
type_of_form form.EnumerationType d choosing k parts = enumeration (flattened (λ m. m.texts) (meanings d.table parts))
type_of_form _ d choosing k parts = indicated_of nothing_denoted

-- what a type definition, the first of these trees, defines
abbrev pub type_defined : Design → Bool → Known → Forest Resolved → Indicated
type_defined d choosing k nothing = indicated_of nothing_denoted
type_defined d choosing k (more n text place parts next) = type_of_form n.form d choosing k parts

-- ---- objects

-- by their subtype for choices and else
pub record TwoIndicated : Type 0 where
  pub own : Indicated
  pub choosing : Indicated

abbrev pub indicated_twice : Design → Known → Forest Resolved → TwoIndicated
indicated_twice d k parts = record { own = indicated d false k parts; choosing = indicated d true k parts }

abbrev pub object_in : ℕ → Indicated → Value Scalar → Static → Env → Env
object_in n i v known e = with_object n i.subtype i.make v known e

abbrev pub object_known : ℕ → TwoIndicated → Value Scalar → Static → Known → Known
object_known n i v known k = record k { env = object_in n i.own v known k.env; choosing = object_in n i.choosing v known k.choosing }

-- a value that is locally static, as one of a subtype
abbrev pub early_value : Static → Argument → Indicated → Got (Value Scalar)
early_value known argument i = if known.is_local then (argument (Ok i.subtype) >>= λ v. got (fit i.subtype v)) else senseless

-- outside of processes and functions a constant is known in elaboration
abbrev pub known_in : Env → Static
known_in e = record { is_local = false; is_global = not e.is_inside }

-- a constant with an expression of its own
abbrev pub constant_of : ℕ → TwoIndicated → Static → Got (Value Scalar) → Known → Known
constant_of n i known (Ok v) k = object_known n i v (constant_known known i.own k.env) k
constant_of n i known (Err halt) k = object_known n i (default_of i.own.subtype) (known_in k.env) k

abbrev pub constants_of : List ℕ → TwoIndicated → Static → Got (Value Scalar) → Known → Known
constants_of [] i known v k = k
constants_of (n ∷ ns) i known v k = constants_of ns i known v (constant_of n i known v k)

-- generics where they stand for no actuals, variables, parameters: objects whose values are known later
abbrev pub later_objects : List ℕ → TwoIndicated → Static → Known → Known
later_objects [] i known k = k
later_objects (n ∷ ns) i known k = later_objects ns i known (object_known n i (default_of i.own.subtype) known k)

-- a signal or a port, in the shape of its values
abbrev pub shaped_signals : Indicated → Signals
shaped_signals i = (numbered (λ n leaf. record { number = n; of_type = leaf.of_type; is_out = false }) 0 (layout i.subtype i.make [])).it

abbrev pub signal_in : ℕ → Indicated → Env → Env
signal_in n i e = with_signals n i.subtype i.make (shaped_signals i) e

abbrev pub signals_known : List ℕ → TwoIndicated → Known → Known
signals_known [] i k = k
signals_known (n ∷ ns) i k = signals_known ns i (record k { env = signal_in n i.own k.env; choosing = signal_in n i.choosing k.choosing })

-- the mark of the record type of a view, whose port may leave its subtype out
abbrev pub mark_of_view : Option View → Option ℕ
mark_of_view None = None
mark_of_view (Some view) = view.mark

abbrev pub view_indicated : Design → Option ℕ → Known → TwoIndicated
view_indicated d view k =
    let mark = mark_of_view (view_in d.units.views view) in record { own = at_mark mark k.env; choosing = at_mark mark k.choosing }

abbrev pub view_port_indicated : Design → Known → Forest Resolved → TwoIndicated
view_port_indicated d k parts =
    if (meaning_at d 4 parts).is_present then indicated_twice d k (parts_at 4 parts) else view_indicated d (meaning_at d 2 parts).declaration k
