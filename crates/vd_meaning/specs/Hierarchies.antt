-- Instances inside instances. An instance is elaborated where instances may still stand inside it, up to the limit on depth.
-- (IEEE 1076, elaboration of a design hierarchy; component instantiation.)
use Rattle.std.specs.Prelude.{ℕ, zero, suc, ◌+◌, ◌==◌, Bool, true, false, ◌&&◌, ◌||◌, not, List, [], ◌∷◌, ◌++◌, map, is_some, length, Option, Some, None, Ok, Err, bytes_eq, if◌then◌else◌}
use Rattle.std.specs.List.{list_all}
use Rattle.vd_bytes.specs.declared.answers.Limit.TheVariants as limit
use Rattle.vd_values.specs.declared.scalar.Scalar.{Scalar}
use Rattle.vd_trees.specs.declared.paths.Label.{Label}
use Rattle.vd_trees.specs.declared.paths.Scope.{Scope}
use Rattle.vd_composites.specs.Stops.{◌>>=◌}
use Rattle.vd_composites.specs.Composites.{Value, leaves}
use Rattle.vd_composites.specs.Subtypes.{Subtype, fit, default_of}
use Rattle.vd_environments.specs.Got.{Got, got, senseless}
use Rattle.vd_environments.specs.Environments.{ScalarSignal, no_subtype, no_make, unknown, Env, Indicated}
use Rattle.vd_environments.specs.Environments.{with_object as with_constant}
use Rattle.vd_meaning.specs.Facets.{Objects, value_of}
use Rattle.vd_meaning.specs.Building.{Made, Limited, Built, evaluated, looking, inside_instance, counted, size_of_object, first_of_object, is_among, plain_start, signals_of, State}
use Rattle.vd_meaning.specs.NodeFacets.{View, Ports, Generics, Actual, Instance, Hierarchy, Elaborating, Unit', EntityUnit, ArchitectureUnit, PackageUnit}
use Rattle.vd_meaning.specs.Instances.{actual_for, known_early, with_generics, Port, ports_of, port_indicated, ties, tied_port, open_port, is_signal, is_implicit, implicit_name, with_implicit}

-- ---- units by their names

pub record EntityText : Type 0 where
  pub generics : Generics
  pub ports : List Ports

-- the last that passes
abbrev pub entity_in : Option EntityText → List Unit' → List ℕ → Option EntityText
entity_in found [] name = found
entity_in found (EntityUnit own generics ports ∷ us) name =
    entity_in (if bytes_eq own name then Some (record { generics = generics; ports = ports }) else found) us name
entity_in found (ArchitectureUnit own entity region ∷ us) name = entity_in found us name
entity_in found (PackageUnit p ∷ us) name = entity_in found us name

pub record ArchitectureText : Type 0 where
  pub name : List ℕ
  pub region : Elaborating

abbrev pub is_wanted : Option (List ℕ) → List ℕ → Bool
is_wanted None name = true
is_wanted (Some wanted) name = bytes_eq wanted name

-- the architecture of an entity that is named, or else the last one that is analysed
abbrev pub architecture_in : Option ArchitectureText → List Unit' → List ℕ → Option (List ℕ) → Option ArchitectureText
architecture_in found [] entity wanted = found
architecture_in found (ArchitectureUnit own of region ∷ us) entity wanted =
    architecture_in (if bytes_eq of entity && is_wanted wanted own then Some (record { name = own; region = region }) else found) us entity wanted
architecture_in found (EntityUnit own generics ports ∷ us) entity wanted = architecture_in found us entity wanted
architecture_in found (PackageUnit p ∷ us) entity wanted = architecture_in found us entity wanted

-- ---- implicit signals: the subtype of the port, where the generics that it names stand for their actuals as they are. So do those that the
-- default of such a generic names, where it is left out. Others aren't evaluated, nor are the subtypes of generics: all that are named are scalars.

abbrev pub is_named : ℕ → List ℕ → Bool
is_named d ns = Rattle.std.specs.List.list_any (λ n. n == d) ns

-- whether one of the generics that are declared together, of which the first has this place, is named and left out
abbrev pub takes_default : List ℕ → (ℕ → ℕ → Option Actual) → ℕ → List ℕ → Bool
takes_default named actual k [] = false
takes_default named actual k (d ∷ ds) = (is_named d named && not (is_some (actual k d))) || takes_default named actual (suc k) ds

abbrev pub with_default : (ℕ → ℕ → Option Actual) → ℕ → Objects → List ℕ → List ℕ → List ℕ
with_default actual k o in_default named = if takes_default named actual k o.numbers then in_default ++ named else named

-- all that are needed where some are named, from the last generic on, since a default names earlier ones alone
abbrev pub needed : (ℕ → ℕ → Option Actual) → ℕ → List Objects → List (List ℕ) → List ℕ → List ℕ
needed actual k (o ∷ os) (names ∷ rest) named = with_default actual k o names (needed actual (k + length o.numbers) os rest named)
needed actual k _ _ named = named

abbrev pub default_put : Option (Got Subtype → Env → Got (Value Scalar)) → Env → Got (Value Scalar)
default_put None f = senseless
default_put (Some default) f = default unknown f

-- what a generic stands for: its actual in the surroundings, or its default
abbrev pub put_value : Env → Env → Objects → Option Actual → Got (Value Scalar)
put_value e f o (Some a) = value_of a.meaning e
put_value e f o None = default_put o.default f

abbrev pub put : Env → List ℕ → ℕ → Objects → Option Actual → Env → Got Env
put e named d o actual f =
    if is_named d named then (put_value e f o actual >>= λ v. Ok (with_constant d no_subtype no_make v known_early f)) else Ok f

abbrev pub put_all : Env → List ℕ → (ℕ → ℕ → Option Actual) → Objects → ℕ → List ℕ → Env → Got Env
put_all e named actual o k [] f = Ok f
put_all e named actual o k (d ∷ ds) f = put e named d o (actual k d) f >>= put_all e named actual o (suc k) ds

abbrev pub put_generics : Env → List ℕ → (ℕ → ℕ → Option Actual) → ℕ → List Objects → Env → Got Env
put_generics e named actual k [] f = Ok f
put_generics e named actual k (o ∷ os) f = put_all e named actual o k o.numbers f >>= put_generics e named actual (k + length o.numbers) os

abbrev pub generic_actual : Instance → ℕ → ℕ → Option Actual
generic_actual x k d = actual_for k d x.generics

abbrev pub port_actual : Instance → ℕ → ℕ → Option Actual
port_actual x k d = actual_for k d x.ports

abbrev pub implicit_subtype : List View → EntityText → Instance → Ports → Env → Got Indicated
implicit_subtype views entity x p e =
    put_generics e (needed (generic_actual x) 0 entity.generics.objects entity.generics.defaults p.named) (generic_actual x) 0 entity.generics.objects e
    >>= port_indicated views p

-- what is done for a port whose actual stands for an implicit signal
abbrev pub if_implicit : (Ports → List ℕ → Actual → State → Built State) → Ports → List ℕ → Option Actual → State → Built State
if_implicit go p name None s = Ok s
if_implicit go p name (Some a) s = if is_implicit s.env (Some a) then go p name a s else Ok s

abbrev pub for_names : (Ports → List ℕ → Actual → State → Built State) → Instance → Ports → ℕ → List ℕ → List (List ℕ) → State → Built State
for_names go x p k (d ∷ ds) (name ∷ names) s = if_implicit go p name (port_actual x k d) s >>= for_names go x p (suc k) ds names
for_names go x p k _ _ s = Ok s

-- and for each of them, in the order of the formals
abbrev pub for_implicit : (Ports → List ℕ → Actual → State → Built State) → Instance → ℕ → List Ports → State → Built State
for_implicit go x k [] s = Ok s
for_implicit go x k (p ∷ ps) s = for_names go x p k p.objects.numbers p.names s >>= for_implicit go x (k + length p.objects.numbers) ps

-- ahead of the statements their subtypes are evaluated, and they count
abbrev pub count_implicit : List View → Scope → EntityText → Instance → Ports → List ℕ → Actual → State → Built State
count_implicit views scope entity x p name a s =
    evaluated scope (implicit_subtype views entity x p s.env) >>= λ i. counted (size_of_object i) s.made >>= λ made. Ok (record s { made = made })

-- in front of the instance they stand, each with its assignment
abbrev pub make_implicit : List View → Scope → EntityText → Instance → Ports → List ℕ → Actual → State → Built State
make_implicit views scope entity x p name a s =
    evaluated scope (implicit_subtype views entity x p s.env) >>= λ i. evaluated scope (first_of_object i (default_of i.subtype)) >>= λ v.
    with_implicit scope (implicit_name x.label name) i a.meaning s

-- ---- associations, in the order of the formals. The implicit signals of the instance have numbers from a first one on, in that order

-- the scalars of an implicit signal of a port, from its first number on
abbrev pub implicit_scalars : ℕ → List ScalarSignal → List ScalarSignal
implicit_scalars n [] = []
implicit_scalars n (x ∷ xs) = record x { number = n } ∷ implicit_scalars (suc n) xs

abbrev pub port_scalars : Port → Made → List ScalarSignal
port_scalars p made = leaves (signals_of p.indicated made (map plain_start p.initial))

-- an inner state, and the number of the next implicit signal
pub record Associating : Type 0 where
  pub state : State
  pub next : ℕ

abbrev pub with_signal_actual : Scope → Scope → Env → Port → Actual → State → Built State
with_signal_actual outer inner e p a s =
    evaluated outer (a.meaning.name.signals e >>= λ signals. ties p (a.meaning.name.subtype e) signals >>= λ x. Ok signals) >>= λ signals.
    Ok (tied_port inner p (leaves signals) s)

abbrev pub with_value_actual : Scope → Scope → Env → Port → Actual → State → Built State
with_value_actual outer inner e p a s =
    evaluated outer (a.meaning.value (Ok p.indicated.subtype) e >>= λ v. got (fit p.indicated.subtype v) >>= first_of_object p.indicated) >>= λ v.
    Ok (open_port inner p (leaves v) s)

-- its implicit signals, which are there
abbrev pub with_implicit_actual : Scope → Scope → Port → Associating → Built Associating
with_implicit_actual outer inner p x =
    if list_all (is_among x.state.made.signals) (implicit_scalars x.next (port_scalars p x.state.made))
    then Ok (record { state = tied_port inner p (implicit_scalars x.next (port_scalars p x.state.made)) x.state; next = x.next + length p.initial })
    else evaluated outer senseless

abbrev pub associated : Scope → Scope → Env → Port → Option Actual → Associating → Built Associating
associated outer inner e p None x = Ok (record x { state = open_port inner p p.initial x.state })
associated outer inner e p (Some a) x =
    if is_signal e a then (with_signal_actual outer inner e p a x.state >>= λ s. Ok (record x { state = s }))
    else (if is_implicit e (Some a) then with_implicit_actual outer inner p x
    else (with_value_actual outer inner e p a x.state >>= λ s. Ok (record x { state = s })))

abbrev pub all_associated : Scope → Scope → Env → Instance → ℕ → List Port → Associating → Built Associating
all_associated outer inner e x k [] s = Ok s
all_associated outer inner e x k (p ∷ ps) s =
    associated outer inner (looking s.state.made e) p (port_actual x k p.number) s >>= all_associated outer inner e x (suc k) ps

-- ---- an entity with an architecture, from its generics on

abbrev pub label_of : List ℕ → Label
label_of name = record { name = name; index = None }

-- the surroundings go on with what the design has then
abbrev pub leaving : Env → State → State
leaving e s = record { env = looking s.made e; made = s.made }

abbrev pub entity_elaborated : List View → Hierarchy → Scope → Scope → EntityText → ArchitectureText → Instance → ℕ → State → Built State
entity_elaborated views h outer inner entity architecture x implicit s =
    with_generics outer inner s.env (generic_actual x) 0 entity.generics.objects s.env >>= λ f.
    ports_of views inner f entity.ports s.made >>= λ ports.
    all_associated outer inner s.env x 0 ports.it (record { state = record { env = f; made = record s.made { counted = ports.next } }; next = implicit }) >>= λ t.
    architecture.region h inner t.state >>= λ u. Ok (leaving s.env u)

abbrev pub instance_of : List View → Hierarchy → Scope → Option EntityText → Option ArchitectureText → Instance → State → Built State
instance_of views h scope (Some entity) (Some architecture) x s =
    for_implicit (make_implicit views scope entity x) x 0 entity.ports s >>= λ t.
    entity_elaborated views h scope (inside_instance (label_of x.label) x.entity architecture.name scope) entity architecture x (length s.made.signals) t
instance_of views h scope _ _ x s = evaluated scope senseless

abbrev pub ahead_of : List View → Scope → Option EntityText → Instance → State → Built State
ahead_of views scope (Some entity) x s = for_implicit (count_implicit views scope entity x) x 0 entity.ports s
ahead_of views scope None x s = evaluated scope senseless

-- so many instances may stand inside one another
abbrev pub hierarchy : List View → List Unit' → ℕ → Hierarchy
hierarchy views units zero =
    record { ahead = λ scope x s. ahead_of views scope (entity_in None units x.entity) x s; instance = λ scope x s. Err (Limited limit.Depth) }
hierarchy views units (suc n) =
    record {
      ahead = λ scope x s. ahead_of views scope (entity_in None units x.entity) x s;
      instance = λ scope x s. instance_of views (hierarchy views units n) scope (entity_in None units x.entity) (architecture_in None units x.entity x.architecture) x s;
    }
