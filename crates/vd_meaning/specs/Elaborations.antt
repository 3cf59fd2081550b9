-- What the elaboration of a top comes to, the design that it gives, and its trace. (IEEE 1076, elaboration of a design hierarchy; execution of a model.)
use Rattle.std.specs.Prelude.{ℕ, suc, ◌==◌, Bool, true, false, ◌&&◌, List, [], ◌∷◌, ◌++◌, map, length, Option, Some, None, Ok, Err, slice_get, if◌then◌else◌}
use Rattle.vd_values.specs.declared.scalar.Scalar.{Scalar}
use Rattle.vd_values.specs.declared.scalar.Scalar.TheVariants.{Literal}
use Rattle.vd_values.specs.declared.scalar.StopKind.{StopKind}
use Rattle.vd_values.specs.declared.scalar.StopKind.TheVariants as kinds
use Rattle.vd_trees.specs.declared.revision.Revision.{Revision}
use Rattle.vd_trees.specs.declared.paths.Scope.{Scope}
use Rattle.vd_trees.specs.declared.traces.Report.{Report}
use Rattle.vd_trees.specs.Traces.{Outcome, shows, stops, Step, End, done, quiet, halted, not_elaborated, Trace}
use Rattle.vd_trees.specs.ValueTexts.{ScalarType, integers, times, enumeration}
use Rattle.vd_trees.specs.TraceText.{trace_text}
use Rattle.vd_kernel.specs.declared.assignments.Source.{Source}
use Rattle.vd_kernel.specs.declared.assignments.Source.TheVariants.{Driver, Port}
use Rattle.vd_kernel.specs.Models.{Signal, Shape, Model, Stimulus}
use Rattle.vd_kernel.specs.Traces.{Shows, Stopped as StoppedAt, Done, Quiet, Halted, TwoSources, trace}
use Rattle.vd_kernel.specs.Traces as kernel
use Rattle.vd_composites.specs.declared.scalars.ScalarType.TheVariants as scalar
use Rattle.vd_composites.specs.Stops.{◌>>=◌}
use Rattle.vd_composites.specs.Composites.{Value}
use Rattle.vd_resolved.specs.Trees.{ResolvedTree}
use Rattle.vd_environments.specs.Got.{Halt, Got, senseless}
use Rattle.vd_environments.specs.Environments.{Env}
use Rattle.vd_environments.specs.Commands.{Command}
use Rattle.vd_environments.specs.Processes.{Running, step, declared}
use Rattle.vd_meaning.specs.Tables.{table}
use Rattle.vd_meaning.specs.Facets.{no_meaning}
use Rattle.vd_meaning.specs.Brackets.{or_else}
use Rattle.vd_meaning.specs.Generics.{with_generics, taken}
use Rattle.vd_meaning.specs.Given.{given_env}
use Rattle.vd_meaning.specs.Building.{Mode, Input, BothWays, is_output, ScalarObject, PortSource, Placed, Made, nothing_made, Failing, Stopped, Limited, Built, evaluated, State}
use Rattle.vd_meaning.specs.NodeFacets.{ElementMode, ByMode, ByView, ViewElement, View, Actual, Instance, Hierarchy, PackageSort, PlainPackage, GenericPackage, BodyOfPackage, InstanceOfPackage, PackageText, Unit', EntityUnit, ArchitectureUnit, PackageUnit, gathered}
use Rattle.vd_meaning.specs.Hierarchies.{EntityText, ArchitectureText, entity_in, architecture_in, hierarchy, entity_elaborated}
use Rattle.vd_meaning.specs.Parts.{with_environment, parts}

-- ---- tops

-- an entity, one of its architectures or the last one that is analysed, and values for its generics, by their numbers; a generic without one has its default
pub record Top : Type 0 where
  pub entity : List ℕ
  pub architecture : Option (List ℕ)
  pub generics : List (ℕ × Value Scalar)

-- ---- packages: in the order of analysis

abbrev pub package_scope : List ℕ → Scope
package_scope name = record { levels = []; generates = []; unit = name }

-- a package with generics and its body, among the units that are analysed
abbrev pub is_generic : PackageSort → Bool
is_generic GenericPackage = true
is_generic _ = false

abbrev pub is_body : PackageSort → Bool
is_body BodyOfPackage = true
is_body _ = false

abbrev pub package_in : (PackageSort → Bool) → Option PackageText → List Unit' → ℕ → Option PackageText
package_in is found [] n = found
package_in is found (PackageUnit p ∷ us) n = package_in is (if is p.sort && (p.number == n) then Some p else found) us n
package_in is found (EntityUnit name generics ports ∷ us) n = package_in is found us n
package_in is found (ArchitectureUnit name entity region ∷ us) n = package_in is found us n

abbrev pub declarations_of : Option PackageText → List Command
declarations_of None = []
declarations_of (Some p) = p.declarations

-- An instance: the generics stand for their actuals, then come the declarations of the package, then those of its body, if that is analysed.
abbrev pub instance_declared : PackageText → Option PackageText → PackageText → Env → Got Env
instance_declared original body p e =
    with_generics original.generics (p.actuals e) e >>= declared original.declarations >>= declared (declarations_of body) >>= λ f. Ok (taken p.copies f e)

abbrev pub instance_elaborated : Option PackageText → Option PackageText → PackageText → State → Built State
instance_elaborated None body p s = evaluated (package_scope p.name) senseless
instance_elaborated (Some original) body p s =
    evaluated (package_scope p.name) (instance_declared original body p s.env) >>= λ e. Ok (with_environment s e)

-- A package with generics, and its body, are evaluated at the instances alone.
abbrev pub unless_generic : Option PackageText → Hierarchy → PackageText → State → Built State
unless_generic None h p s = p.declaring h (package_scope p.name) s
unless_generic (Some original) h p s = Ok s

abbrev pub elaborated_by : PackageSort → Hierarchy → List Unit' → PackageText → State → Built State
elaborated_by PlainPackage h before p s = p.declaring h (package_scope p.name) s
elaborated_by GenericPackage h before p s = Ok s
elaborated_by BodyOfPackage h before p s = unless_generic (package_in is_generic None before p.number) h p s
elaborated_by InstanceOfPackage h before p s =
    instance_elaborated (package_in is_generic None before p.number) (package_in is_body None before p.number) p s

abbrev pub package_elaborated : Hierarchy → List Unit' → PackageText → State → Built State
package_elaborated h before p s = elaborated_by p.sort h before p s

abbrev pub with_packages : Hierarchy → List Unit' → List Unit' → State → Built State
with_packages h before [] s = Ok s
with_packages h before (PackageUnit p ∷ us) s =
    package_elaborated h before p s >>= with_packages h (before ++ PackageUnit p ∷ []) us
with_packages h before (EntityUnit name generics ports ∷ us) s = with_packages h before us s
with_packages h before (ArchitectureUnit name entity region ∷ us) s = with_packages h before us s

-- ---- the top: an instance that nothing is associated with

abbrev pub given_actual : ℕ × Value Scalar → Actual
given_actual g = record { formal = Some g.0; meaning = record no_meaning { value = λ _ _. Ok g.1 } }

abbrev pub top_instance : Top → Instance
top_instance top = record { label = []; entity = top.entity; architecture = top.architecture; generics = map given_actual top.generics; ports = [] }

abbrev pub top_scope : Top → List ℕ → Scope
top_scope top architecture =
    record { levels = record { labels = []; entity = top.entity; architecture = architecture } ∷ []; generates = []; unit = [] }

abbrev pub top_elaborated : List View → Hierarchy → Top → EntityText → ArchitectureText → State → Built State
top_elaborated views h top entity architecture s =
    entity_elaborated views h (top_scope top architecture.name) (top_scope top architecture.name) entity architecture (top_instance top) 0 s

-- ---- what it comes to

-- a design; a stop or a limit, whichever is met first; or there is no such top
pub data Elaboration : Type 0 where
  Elaborates : (made : Made) → Elaboration
  Fails : (failing : Failing) → Elaboration
  NoTop : Elaboration

abbrev pub of_built : Built State → Elaboration
of_built (Ok s) = Elaborates s.made
of_built (Err failing) = Fails failing

-- all units of the design, and its views
pub record Units : Type 0 where
  pub units : List Unit'
  pub views : List View

-- Each view that a package with generics declares is one of each instance of it too, where it is of the record type of that instance.
abbrev pub copied : List (ℕ × ℕ) → ℕ → Option ℕ
copied [] n = None
copied (c ∷ cs) n = if c.0 == n then Some c.1 else copied cs n

abbrev pub number_as : List (ℕ × ℕ) → Option ℕ → Option ℕ
number_as cs None = None
number_as cs (Some n) = or_else (copied cs n) (Some n)

abbrev pub mode_as : List (ℕ × ℕ) → ElementMode → ElementMode
mode_as cs (ByMode mode) = ByMode mode
mode_as cs (ByView view is_converse) = ByView (number_as cs view) is_converse

abbrev pub element_as : List (ℕ × ℕ) → ViewElement → ViewElement
element_as cs x = record x { mode = mode_as cs x.mode }

abbrev pub view_as : List (ℕ × ℕ) → View → Option ℕ → List View
view_as cs v None = []
view_as cs v (Some copy) = record { view = copy; mark = number_as cs v.mark; elements = map (element_as cs) v.elements } ∷ []

abbrev pub views_as : List (ℕ × ℕ) → List View → List View
views_as cs [] = []
views_as cs (v ∷ vs) = view_as cs v (copied cs v.view) ++ views_as cs vs

abbrev pub views_of_instances : List Unit' → List View → List View
views_of_instances [] vs = []
views_of_instances (PackageUnit p ∷ us) vs = views_as p.copies vs ++ views_of_instances us vs
views_of_instances (EntityUnit name generics ports ∷ us) vs = views_of_instances us vs
views_of_instances (ArchitectureUnit name entity region ∷ us) vs = views_of_instances us vs

abbrev pub with_views : List Unit' → List View → Units
with_views us vs = record { units = us; views = vs ++ views_of_instances us vs }

abbrev pub units_of : Revision → ResolvedTree → Units
units_of r tree =
    let ps = parts (table r tree.declarations) tree.units in with_views (gathered (λ p. p.units) ps) (gathered (λ p. p.views) ps)

-- 64 instances may stand inside one another
abbrev pub hierarchy_of : Units → Hierarchy
hierarchy_of u = hierarchy u.views u.units 64

abbrev pub beginning : State
beginning = record { env = given_env (λ _. Literal 0); made = nothing_made }

abbrev pub elaborated_with : Units → Top → Option EntityText → Option ArchitectureText → Elaboration
elaborated_with u top (Some entity) (Some architecture) =
    of_built (with_packages (hierarchy_of u) [] u.units beginning >>= top_elaborated u.views (hierarchy_of u) top entity architecture)
elaborated_with u top _ _ = NoTop

abbrev pub elaborated_units : Units → Top → Elaboration
elaborated_units u top = elaborated_with u top (entity_in None u.units top.entity) (architecture_in None u.units top.entity top.architecture)

abbrev pub elaboration : Revision → ResolvedTree → Top → Elaboration
elaboration r tree top = elaborated_units (units_of r tree) top

-- ---- the design as the kernel runs it

-- the drivers of a signal, the first of the list having this number, and the ports that are sources of it
abbrev pub drivers_of : ℕ → ℕ → List ℕ → List Source
drivers_of n k [] = []
drivers_of n k (d ∷ ds) = if d == n then Driver k ∷ drivers_of n (suc k) ds else drivers_of n (suc k) ds

abbrev pub ports_of : ℕ → List PortSource → List Source
ports_of n [] = []
ports_of n (p ∷ ps) = if p.of == n then Port p.port ∷ ports_of n ps else ports_of n ps

-- a port of the top
abbrev pub is_of_top : ScalarObject → Bool
is_of_top x = length x.path.levels == 1

-- the outside may drive the `in` ports of the top, and its `inout` ports of resolved types
abbrev pub is_open_mode : Option Mode → Bool → Bool
is_open_mode (Some Input) resolved = true
is_open_mode (Some BothWays) resolved = resolved
is_open_mode _ resolved = false

abbrev pub is_input : ScalarObject → Bool
is_input x = is_of_top x && is_open_mode x.mode x.make.is_resolved

abbrev pub inputs_from : ℕ → List ScalarObject → List ℕ
inputs_from n [] = []
inputs_from n (x ∷ xs) = if is_input x then n ∷ inputs_from (suc n) xs else inputs_from (suc n) xs

-- the signals, of which the first has this number, and the next input this driver
abbrev pub signals_from : Made → ℕ → ℕ → List ScalarObject → List Signal
signals_from made n outside [] = []
signals_from made n outside (x ∷ xs) =
    record {
      initial = x.initial;
      is_resolved = x.make.is_resolved;
      sources = drivers_of n 0 made.driven ++ ports_of n made.sources;
      actual = x.actual;
      is_out = is_output x.mode;
      input = if is_input x then Some outside else None;
    }
    ∷ signals_from made (suc n) (if is_input x then suc outside else outside) xs

abbrev pub shape_of : Made → Shape
shape_of made =
    record { signals = signals_from made 0 (length made.driven) made.signals; driven = made.driven; inputs = inputs_from 0 made.signals }

abbrev pub model_of : Made → Model Running
model_of made = record { shape = shape_of made; processes = map (λ p. p.running) made.processes; step = step }

-- ---- traces

abbrev pub no_scope : Scope
no_scope = record { levels = []; generates = []; unit = [] }

abbrev pub process_scope : Option Placed → Scope
process_scope None = no_scope
process_scope (Some p) = p.scope

abbrev pub signal_scope : Option ScalarObject → Scope
signal_scope None = no_scope
signal_scope (Some x) = record { levels = x.path.levels; generates = x.path.generates; unit = [] }

abbrev pub last_text : List ℕ → List Report → List ℕ
last_text text [] = text
last_text text (r ∷ rs) = last_text r.text rs

-- of a failure what it reported, which is the last report of its step
abbrev pub stop_text : StopKind → List Report → List ℕ
stop_text kinds.Failure reports = last_text [] reports
stop_text _ reports = []

abbrev pub values_from : (ℕ → Scalar) → ℕ → List ScalarObject → List Scalar
values_from values n [] = []
values_from values n (x ∷ xs) = values n ∷ values_from values (suc n) xs

abbrev pub outcome_of : Made → kernel.Step → kernel.Outcome → Outcome
outcome_of made s (Shows values) = shows (values_from values 0 made.signals)
outcome_of made s (StoppedAt stop) =
    stops (record { kind = stop.kind; time = s.time; delta = s.delta; scope = process_scope (slice_get made.processes stop.process); text = stop_text stop.kind s.reports })

abbrev pub step_of : Made → kernel.Step → Step
step_of made s = record { time = s.time; delta = s.delta; reports = s.reports; outcome = outcome_of made s s.outcome }

abbrev pub end_of : Made → kernel.End → End
end_of made Done = done
end_of made Quiet = quiet
end_of made Halted = halted
end_of made (TwoSources n) =
    not_elaborated (record { kind = kinds.TwoSources; time = 0; delta = 0; scope = signal_scope (slice_get made.signals n); text = [] })

-- the trace of a design after so many cycles, delta cycles counted
abbrev pub trace_of : Made → Stimulus → ℕ → Trace
trace_of made given cycles = let t = trace (model_of made) given cycles in record { steps = map (step_of made) t.steps; end = end_of made t.end }

-- ---- their text

abbrev pub printed : Rattle.vd_composites.specs.declared.scalars.ScalarType.ScalarType → List (List ℕ) → ScalarType
printed scalar.Integers literals = integers
printed scalar.Times literals = times
printed (scalar.Enumeration count) literals = enumeration literals

abbrev pub design_trace_text : Made → Stimulus → ℕ → List ℕ
design_trace_text made given cycles =
    trace_text (map (λ x. x.path) made.signals) (map (λ x. printed x.of_type x.make.literals) made.signals) (trace_of made given cycles)

-- ---- the trace of a top: of a design, or of a stop in its elaboration, which has no steps. A limit and a missing top have none

abbrev pub stopped_trace : Halt → Scope → Trace
stopped_trace halt scope =
    record { steps = []; end = not_elaborated (record { kind = halt.kind; time = 0; delta = 0; scope = scope; text = halt.text }) }

abbrev pub failed_trace : Failing → Option Trace
failed_trace (Stopped halt scope) = Some (stopped_trace halt scope)
failed_trace (Limited limit) = None

abbrev pub trace_of_top : Elaboration → Stimulus → ℕ → Option Trace
trace_of_top (Elaborates made) given cycles = Some (trace_of made given cycles)
trace_of_top (Fails failing) given cycles = failed_trace failing
trace_of_top NoTop given cycles = None
