-- Instances: generics, ports, associations. (IEEE 1076, component and entity instantiations; association lists; ports; generics.)
use Rattle.std.specs.Prelude.{ℕ, zero, suc, ◌+◌, ◌==◌, nat_lt, Bool, true, false, not, ◌&&◌, List, [], ◌∷◌, ◌++◌, map, length, Option, Some, None, Ok, Err, bytes_eq, slice_index_or, if◌then◌else◌}
use Rattle.std.specs.Ordering.{int_eq}
use Rattle.vd_values.specs.declared.scalar.Scalar.{Scalar}
use Rattle.vd_values.specs.declared.scalar.StopKind.TheVariants.{Range, Length}
use Rattle.vd_trees.specs.declared.paths.Scope.{Scope}
use Rattle.vd_kernel.specs.declared.assignments.Delay.TheVariants.{Inertial}
use Rattle.vd_composites.specs.declared.ranges.Bounds.{Bounds}
use Rattle.vd_composites.specs.Stops.{◌>>=◌}
use Rattle.vd_composites.specs.Ranges.{length_of}
use Rattle.vd_operators.specs.Attributes.{side_of}
use Rattle.vd_operators.specs.declared.attributes.Side.TheVariants.{LowSide, HighSide}
use Rattle.vd_composites.specs.Composites.{Value, Items, item, leaves, Fields, bounds_of}
use Rattle.vd_composites.specs.Subtypes.{Subtype, Scalars, fit, default_of}
use Rattle.vd_environments.specs.Got.{Got, got, stop, senseless}
use Rattle.vd_environments.specs.Environments.{ScalarSignal, Signals, Static, is_static, Make, OfFields, Makes, and_make, Env, Indicated, or_senseless}
use Rattle.vd_environments.specs.Environments.{with_object as with_constant}
use Rattle.vd_environments.specs.Processes.{Process}
use Rattle.vd_meaning.specs.Tables.{same_type}
use Rattle.vd_meaning.specs.Names.{Named, no_name}
use Rattle.vd_meaning.specs.Facets.{Meaning, Objects, at_once}
use Rattle.vd_meaning.specs.Statements.{driving}
use Rattle.vd_meaning.specs.Meanings.{process_of}
use Rattle.vd_meaning.specs.Layouts.{Leaf, Counted}
use Rattle.vd_meaning.specs.Building.{Mode, Input, Output, BothWays, PortSource, Made, Built, evaluated, looking, seen_in, counted, layout_of, size_of_object, same_scalar_type, first_of_object, Start, plain_start, signals_of, scalar_objects, State, with_object, with_process}
use Rattle.vd_meaning.specs.NodeFacets.{ElementMode, ByMode, ByView, ViewElement, View, Ports, Actual}

-- ---- modes of the scalars of a port, by its mode or its view

abbrev pub swapped : Mode → Mode
swapped Input = Output
swapped Output = Input
swapped BothWays = BothWays

abbrev pub conversed : Bool → Mode → Mode
conversed c m = if c then swapped m else m

abbrev pub differ : Bool → Bool → Bool
differ a b = if a then not b else b

abbrev pub view_in : List View → Option ℕ → Option View
view_in [] d = None
view_in (v ∷ vs) d = if same_type (Some v.view) d then Some v else view_in vs d

abbrev pub element_mode : List ViewElement → List ℕ → ElementMode
element_mode [] name = ByMode Input
element_mode (x ∷ xs) name = if bytes_eq x.name name then x.mode else element_mode xs name

-- of the fields of a record, where the modes of each are known
abbrev pub modes_of_fields : (ElementMode → Make → Value Leaf → List Mode) → List ViewElement → Makes → Items Leaf → List Mode
modes_of_fields go xs (and_make name m ms) (item v vs) = go (element_mode xs name) m v ++ modes_of_fields go xs ms vs
modes_of_fields go xs _ _ = []

abbrev pub modes_of_view : (ElementMode → Make → Value Leaf → List Mode) → Option View → Make → Value Leaf → List Mode
modes_of_view go (Some view) (OfFields fields) (Fields vs) = modes_of_fields go view.elements fields vs
modes_of_view go _ make v = []

-- the modes of the leaves of something, by a mode or a view; no view stands inside itself
abbrev pub modes_by : ℕ → List View → Bool → ElementMode → Make → Value Leaf → List Mode
modes_by n views c (ByMode m) make v = map (λ x. conversed c m) (leaves v)
modes_by zero views c (ByView d k) make v = []
modes_by (suc n) views c (ByView d k) make v = modes_of_view (modes_by n views (differ c k)) (view_in views d) make v

abbrev pub port_modes : List View → ElementMode → Indicated → List Mode
port_modes views mode i = modes_by (suc (length views)) views false mode i.make (layout_of i)

-- ---- actuals

-- the actual of a formal: the one that names it, or the one at its place
abbrev pub names_formal : ℕ → Actual → Bool
names_formal d a = same_type a.formal (Some d)

abbrev pub named_actual : ℕ → List Actual → Option Actual
named_actual d [] = None
named_actual d (a ∷ as') = if names_formal d a then Some a else named_actual d as'

abbrev pub nth_actual : ℕ → List Actual → Option Actual
nth_actual k [] = None
nth_actual zero (a ∷ as') = if Rattle.std.specs.Prelude.is_some a.formal then None else Some a
nth_actual (suc k) (a ∷ as') = nth_actual k as'

abbrev pub or_placed : Option Actual → Option Actual → Option Actual
or_placed None other = other
or_placed (Some a) other = Some a

abbrev pub unless_open : Option Actual → Option Actual
unless_open None = None
unless_open (Some a) = if a.meaning.is_open then None else Some a

abbrev pub actual_for : ℕ → ℕ → List Actual → Option Actual
actual_for k d as' = unless_open (or_placed (named_actual d as') (nth_actual k as'))

-- ---- generics: one by one, its subtype, then its actual in the surroundings or its default, then its conversion there

abbrev pub generic_value : Scope → Scope → Env → Env → Option (Got Subtype → Env → Got (Value Scalar)) → Indicated → Option Actual → Built (Value Scalar)
generic_value outer inner e f default i (Some a) = evaluated outer (a.meaning.value (Ok i.subtype) e >>= λ v. got (fit i.subtype v))
generic_value outer inner e f (Some default) i None = evaluated inner (default (Ok i.subtype) f >>= λ v. got (fit i.subtype v))
generic_value outer inner e f None i None = evaluated inner senseless

-- outside of processes a generic is known in elaboration
abbrev pub known_early : Static
known_early = record { is_local = false; is_global = true }

abbrev pub with_generic : Scope → Scope → Env → ℕ → Objects → Option Actual → Env → Built Env
with_generic outer inner e d o actual f =
    evaluated inner (o.indicated f) >>= λ i. generic_value outer inner e f o.default i actual >>= λ v.
    Ok (with_constant d i.subtype i.make v known_early f)

-- the generics that are declared together, of which the first has this place
abbrev pub with_generics_of : Scope → Scope → Env → (ℕ → ℕ → Option Actual) → Objects → ℕ → List ℕ → Env → Built Env
with_generics_of outer inner e actual o k [] f = Ok f
with_generics_of outer inner e actual o k (d ∷ ds) f = with_generic outer inner e d o (actual k d) f >>= with_generics_of outer inner e actual o (suc k) ds

abbrev pub with_generics : Scope → Scope → Env → (ℕ → ℕ → Option Actual) → ℕ → List Objects → Env → Built Env
with_generics outer inner e actual k [] f = Ok f
with_generics outer inner e actual k (o ∷ os) f =
    with_generics_of outer inner e actual o k o.numbers f >>= with_generics outer inner e actual (k + length o.numbers) os

-- ---- ports: first all subtypes and defaults

pub record Port : Type 0 where
  pub number : ℕ
  pub name : List ℕ
  pub indicated : Indicated
  pub modes : List Mode
  pub initial : List Scalar

abbrev pub default_value : Scope → Env → Option (Got Subtype → Env → Got (Value Scalar)) → Indicated → Built (Value Scalar)
default_value inner f None i = Ok (default_of i.subtype)
default_value inner f (Some default) i = evaluated inner (default (Ok i.subtype) f >>= λ v. got (fit i.subtype v))

abbrev pub marked_by : Option View → Env → Got Indicated
marked_by None f = senseless
marked_by (Some view) f = or_senseless view.mark >>= λ d. Ok (record { subtype = (f.denotes d).subtype; make = (f.denotes d).make })

abbrev pub view_subtype : List View → ElementMode → Env → Got Indicated
view_subtype views (ByMode m) f = senseless
view_subtype views (ByView d k) f = marked_by (view_in views d) f

abbrev pub port_indicated : List View → Ports → Env → Got Indicated
port_indicated views p f = if p.has_subtype then p.objects.indicated f else view_subtype views p.mode f

-- a mode for each of its scalar signals
abbrev pub modes_of_port : List View → ElementMode → Indicated → Got (List Mode)
modes_of_port views mode i = if length (port_modes views mode i) == size_of_object i then Ok (port_modes views mode i) else senseless

abbrev pub some_port : List View → Scope → Env → Ports → ℕ → List ℕ → Made → Built (Counted Port)
some_port views inner f p d name made =
    evaluated inner (port_indicated views p f) >>= λ i. counted (size_of_object i) made >>= λ counting. default_value inner f p.objects.default i >>= λ v.
    evaluated inner (first_of_object i v) >>= λ w. evaluated inner (modes_of_port views p.mode i) >>= λ modes.
    Ok (record { it = record { number = d; name = name; indicated = i; modes = modes; initial = leaves w }; next = counting.counted })

-- ports and how many scalar signals are counted then
abbrev pub ports_named : List View → Scope → Env → Ports → List ℕ → List (List ℕ) → Made → Built (Counted (List Port))
ports_named views inner f p (d ∷ ds) (name ∷ names) made =
    some_port views inner f p d name made >>= λ x. ports_named views inner f p ds names (record made { counted = x.next }) >>= λ xs. Ok (record { it = x.it ∷ xs.it; next = xs.next })
ports_named views inner f p _ _ made = Ok (record { it = []; next = made.counted })

abbrev pub ports_of : List View → Scope → Env → List Ports → Made → Built (Counted (List Port))
ports_of views inner f [] made = Ok (record { it = []; next = made.counted })
ports_of views inner f (p ∷ ps) made =
    ports_named views inner f p p.objects.numbers p.names made >>= λ x. ports_of views inner f ps (record made { counted = x.next }) >>= λ xs.
    Ok (record { it = x.it ++ xs.it; next = xs.next })

-- ---- associations

abbrev pub open_starts : List Mode → List Scalar → List Start
open_starts (m ∷ ms) (x ∷ xs) = record { mode = Some m; initial = x; seen = x; actual = None } ∷ open_starts ms xs
open_starts _ _ = []

-- a port of mode `in` or `inout` has its value from its actual
abbrev pub tied_start : Made → Mode → Scalar → ScalarSignal → Start
tied_start made Output x n = record { mode = Some Output; initial = x; seen = x; actual = None }
tied_start made m x n = record { mode = Some m; initial = x; seen = seen_in made n.number; actual = Some n.number }

abbrev pub tied_starts : Made → List Mode → List Scalar → List ScalarSignal → List Start
tied_starts made (m ∷ ms) (x ∷ xs) (n ∷ ns) = tied_start made m x n ∷ tied_starts made ms xs ns
tied_starts made _ _ _ = []

-- and one of mode `out` or `inout` is a source of it; the ports have numbers from a first one on
abbrev pub port_sources : ℕ → List Mode → List ScalarSignal → List PortSource
port_sources k (Input ∷ ms) (n ∷ ns) = port_sources (suc k) ms ns
port_sources k (m ∷ ms) (n ∷ ns) = record { port = k; of = n.number } ∷ port_sources (suc k) ms ns
port_sources k _ _ = []

-- A scalar port and its actual have the same 'low and 'high, also of null ranges. An array port is as long as its actual.
abbrev pub same_limits : Subtype → Subtype → Got (Unit {0})
same_limits (Scalars s) (Scalars r) =
    if int_eq (side_of LowSide s.range) (side_of LowSide r.range) && int_eq (side_of HighSide s.range) (side_of HighSide r.range)
    then Ok tt else stop Range
same_limits _ _ = Ok tt

abbrev pub scalar_limits : Subtype → Got Subtype → Got (Unit {0})
scalar_limits (Scalars s) (Ok r) = same_limits (Scalars s) r
scalar_limits s _ = Ok tt

abbrev pub same_length : Option Bounds → Option Bounds → Got (Unit {0})
same_length (Some b) (Some c) = if length_of b == length_of c then Ok tt else stop Length
same_length _ _ = Ok tt

-- they have one type, and so equally many scalars of the same types then
abbrev pub have_one_type : List Leaf → List ScalarSignal → Bool
have_one_type [] [] = true
have_one_type (leaf ∷ rest) (n ∷ ns) = same_scalar_type leaf.of_type n.of_type && have_one_type rest ns
have_one_type _ _ = false

abbrev pub same_types : Port → Signals → Got (Unit {0})
same_types p signals = if have_one_type (leaves (layout_of p.indicated)) (leaves signals) then Ok tt else senseless

abbrev pub as_long : Port → Signals → Got (Unit {0})
as_long p signals = same_length (bounds_of (layout_of p.indicated)) (bounds_of signals) >>= λ x. same_types p signals

abbrev pub ties : Port → Got Subtype → Signals → Got (Unit {0})
ties p subtype signals = scalar_limits p.indicated.subtype subtype >>= λ x. as_long p signals

-- a port that is tied to signals
abbrev pub tied_port : Scope → Port → List ScalarSignal → State → State
tied_port inner p ns s =
    let t = with_object inner p.number p.name p.indicated (tied_starts s.made p.modes p.initial ns) s in
    record t { made = record t.made { sources = t.made.sources ++ port_sources (length s.made.signals) p.modes ns } }

abbrev pub open_port : Scope → Port → List Scalar → State → State
open_port inner p xs s = with_object inner p.number p.name p.indicated (open_starts p.modes xs) s

-- ---- implicit signals: what an expression that isn't static stands for

-- whether an actual is a name of a signal, or a conversion of one, with static indexes
abbrev pub is_signal : Env → Actual → Bool
is_signal e a = a.meaning.name.is_whole e

abbrev pub is_implicit : Env → Option Actual → Bool
is_implicit e None = false
is_implicit e (Some a) = not (is_signal e a) && not (is_static (a.meaning.known e))

-- the name of the signal of an instance and a port (39 is an apostrophe)
abbrev pub implicit_name : List ℕ → List ℕ → List ℕ
implicit_name label port = label ++ (39 ∷ port)

abbrev pub target_named : Indicated → Signals → Named
target_named i signals = record no_name { signals = λ _. Ok signals; subtype = λ _. Ok i.subtype }

abbrev pub implicit_process : Indicated → Signals → Meaning → Process
implicit_process i signals m =
    process_of (driving (target_named i signals) Inertial (at_once m.value)) (Some m.reads) (λ _. Ok (signals ∷ []))

-- a signal with no declaration of its own
abbrev pub added : Scope → List ℕ → Indicated → List Start → State → State
added scope name i starts s =
    let made = record s.made { signals = s.made.signals ++ scalar_objects scope name (leaves (layout_of i)) starts } in
    record { env = looking made s.env; made = made }

abbrev pub with_implicit : Scope → List ℕ → Indicated → Meaning → State → Built State
with_implicit scope name i m s =
    with_process scope (implicit_process i (signals_of i s.made (map plain_start (leaves (default_of i.subtype)))) m)
    (added scope name i (map plain_start (leaves (default_of i.subtype))) s)
