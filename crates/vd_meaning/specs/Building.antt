-- A design that is being elaborated: what it has so far, and how signals and processes are added. (IEEE 1076, elaboration of a design hierarchy.)
use Rattle.std.specs.Prelude.{ℕ, suc, ◌+◌, nat_lt, ◌==◌, Bool, true, false, not, ◌||◌, List, [], ◌∷◌, ◌++◌, map, length, Option, Some, None, Result, Ok, Err, slice_get, slice_index_or, if◌then◌else◌}
use Rattle.vd_bytes.specs.declared.answers.Limit.{Limit}
use Rattle.vd_bytes.specs.declared.answers.Limit.TheVariants as limit
use Rattle.vd_values.specs.declared.scalar.Scalar.{Scalar}
use Rattle.vd_values.specs.declared.scalar.Scalar.TheVariants.{Literal}
use Rattle.vd_trees.specs.declared.paths.Path.{Path}
use Rattle.vd_trees.specs.declared.paths.PathStep.{PathStep}
use Rattle.vd_trees.specs.declared.paths.Label.{Label}
use Rattle.vd_trees.specs.declared.paths.Scope.{Scope}
use Rattle.vd_composites.specs.declared.scalars.ScalarType.{ScalarType}
use Rattle.vd_composites.specs.declared.scalars.ScalarType.TheVariants.{Integers, Enumeration, Times}
use Rattle.vd_composites.specs.Stops.{◌>>=◌}
use Rattle.vd_composites.specs.Composites.{Value, leaves}
use Rattle.vd_environments.specs.Got.{Halt, Got, senseless}
use Rattle.vd_environments.specs.Environments.{ScalarMake, ScalarSignal, Signals, of_the_type, Env, Indicated, with_signals, seeing}
use Rattle.vd_environments.specs.Processes.{Process, Running, Elaborated, elaborated}
use Rattle.vd_meaning.specs.Given.{elaborating}
use Rattle.vd_meaning.specs.Layouts.{Leaf, layout, numbered}

-- ---- modes

pub data Mode : Type 0 where
  Input : Mode
  Output : Mode
  BothWays : Mode

abbrev pub is_output : Option Mode → Bool
is_output (Some Output) = true
is_output _ = false

-- ---- what a design has so far

-- A scalar signal: its path, a port's mode, its type and literals, and whether it is resolved; the value that it begins with, and the one that is seen of it in elaboration; of
-- an associated port of mode `in` or `inout` the signal that it has its value from.
pub record ScalarObject : Type 0 where
  pub path : Path
  pub mode : Option Mode
  pub of_type : ScalarType
  pub make : ScalarMake
  pub initial : Scalar
  pub seen : Scalar
  pub actual : Option ℕ

-- a port of mode `out` or `inout`, and the signal that it is a source of
pub record PortSource : Type 0 where
  pub port : ℕ
  pub of : ℕ

-- an elaborated process, and where it stands
pub record Placed : Type 0 where
  pub running : Running
  pub scope : Scope

pub record Made : Type 0 where
  pub signals : List ScalarObject
  -- how many scalar signals were counted, of which some may not be there yet
  pub counted : ℕ
  pub sources : List PortSource
  -- the signals that the drivers of the processes drive, in order
  pub driven : List ℕ
  pub processes : List Placed

abbrev pub nothing_made : Made
nothing_made = record { signals = []; counted = 0; sources = []; driven = []; processes = [] }

-- ---- why there is no design

pub data Failing : Type 0 where
  Stopped : (halt : Halt) (scope : Scope) → Failing
  Limited : (limit : Limit) → Failing

abbrev pub Built : Type 0 → Type 0
Built A = Result A Failing

-- an evaluation at a place
abbrev pub evaluated : {A : Type 0} → Scope → Got A → Built A
evaluated scope (Ok x) = Ok x
evaluated scope (Err halt) = Err (Stopped halt scope)

-- ---- what is seen in elaboration: each signal at its initial value, an associated port at that of its actual

abbrev pub seen_in : Made → ℕ → Scalar
seen_in made n = slice_index_or (map (λ s. s.seen) made.signals) n (Literal 0)

abbrev pub looking : Made → Env → Env
looking made e = seeing (elaborating (seen_in made)) e

-- ---- where something stands

abbrev pub at_path : Scope → List ℕ → List PathStep → Path
at_path scope object steps = record { levels = scope.levels; generates = scope.generates; object = object; rest = steps }

abbrev pub inside_generate : Label → Scope → Scope
inside_generate label scope = record scope { generates = scope.generates ++ label ∷ [] }

-- inside an instance: a new level, reached by the generates round the instance and its label
abbrev pub inside_instance : Label → (entity architecture : List ℕ) → Scope → Scope
inside_instance label entity architecture scope =
    record { levels = scope.levels ++ record { labels = scope.generates ++ label ∷ []; entity = entity; architecture = architecture } ∷ []; generates = []; unit = [] }

-- ---- counting

abbrev pub counted : ℕ → Made → Built Made
counted n made = if nat_lt 1000000 (made.counted + n) then Err (Limited limit.Signals) else Ok (record made { counted = made.counted + n })

abbrev pub layout_of : Indicated → Value Leaf
layout_of i = layout i.subtype i.make []

abbrev pub size_of_object : Indicated → ℕ
size_of_object i = length (leaves (layout_of i))

-- ---- what objects begin with: a value for each scalar signal, of its type. Signals that are resolved are of STD_ULOGIC

abbrev pub same_scalar_type : ScalarType → ScalarType → Bool
same_scalar_type Integers Integers = true
same_scalar_type Times Times = true
same_scalar_type (Enumeration m) (Enumeration n) = m == n
same_scalar_type _ _ = false

abbrev pub first_value : Leaf → Scalar → Got Scalar
first_value leaf x =
    if not leaf.make.is_resolved || same_scalar_type leaf.of_type (Enumeration 9) then of_the_type leaf.of_type x else senseless

abbrev pub first_values : List Leaf → List Scalar → Got (List Scalar)
first_values [] [] = Ok []
first_values (leaf ∷ rest) (x ∷ xs) = first_value leaf x >>= λ y. first_values rest xs >>= λ ys. Ok (y ∷ ys)
first_values _ _ = senseless

abbrev pub first_of_object : Indicated → Value Scalar → Got (Value Scalar)
first_of_object i v = first_values (leaves (layout_of i)) (leaves v) >>= λ xs. Ok v

-- ---- signals

-- whether a scalar signal is one of these, of such a type
abbrev pub is_such : Option ScalarObject → ScalarType → Bool
is_such None t = false
is_such (Some o) t = same_scalar_type o.of_type t

abbrev pub is_among : List ScalarObject → ScalarSignal → Bool
is_among signals x = is_such (slice_get signals x.number) x.of_type

-- what a scalar of an object begins with and shows, its mode and its actual
pub record Start : Type 0 where
  pub mode : Option Mode
  pub initial : Scalar
  pub seen : Scalar
  pub actual : Option ℕ

abbrev pub scalar_object : Scope → List ℕ → Leaf → Start → ScalarObject
scalar_object scope name leaf start =
    record {
      path = at_path scope name leaf.steps;
      mode = start.mode;
      of_type = leaf.of_type;
      make = leaf.make;
      initial = start.initial;
      seen = start.seen;
      actual = start.actual;
    }

abbrev pub scalar_objects : Scope → List ℕ → List Leaf → List Start → List ScalarObject
scalar_objects scope name (x ∷ xs) (s ∷ ss) = scalar_object scope name x s ∷ scalar_objects scope name xs ss
scalar_objects scope name _ _ = []

-- by their modes, the scalar signals with numbers from the next one on
abbrev pub is_out_at : List Start → ℕ → ℕ → Bool
is_out_at [] first n = false
is_out_at (s ∷ ss) first n = if n == first then is_output s.mode else is_out_at ss (suc first) n

abbrev pub signals_of : Indicated → Made → List Start → Signals
signals_of i made starts =
    (numbered (λ n leaf. record { number = n; of_type = leaf.of_type; is_out = is_out_at starts (length made.signals) n }) (length made.signals) (layout_of i)).it

-- an environment and a design
pub record State : Type 0 where
  pub env : Env
  pub made : Made

-- an object more, under the number of its declaration
abbrev pub with_object : Scope → ℕ → List ℕ → Indicated → List Start → State → State
with_object scope d name i starts s =
    let made = record s.made { signals = s.made.signals ++ scalar_objects scope name (leaves (layout_of i)) starts } in
    record { env = looking made (with_signals d i.subtype i.make (signals_of i s.made starts) s.env); made = made }

-- a signal of no mode, with its initial value
abbrev pub plain_start : Scalar → Start
plain_start x = record { mode = None; initial = x; seen = x; actual = None }

abbrev pub with_signal : Scope → ℕ → List ℕ → Indicated → Value Scalar → State → State
with_signal scope d name i v s = with_object scope d name i (map plain_start (leaves v)) s

-- ---- processes

abbrev pub placed : Scope → Elaborated → Made → Made
placed scope p made =
    record made { driven = made.driven ++ p.driven; processes = made.processes ++ record { running = p.running; scope = scope } ∷ [] }

-- a process counts when its place is reached
abbrev pub with_process : Scope → Process → State → Built State
with_process scope p s =
    if nat_lt (length s.made.processes) 100000
    then (evaluated scope (elaborated (length s.made.driven) p s.env) >>= λ q. Ok (record s { made = placed scope q s.made }))
    else Err (Limited limit.Processes)

abbrev pub with_processes : Scope → List Process → State → Built State
with_processes scope [] s = Ok s
with_processes scope (p ∷ ps) s = with_process scope p s >>= with_processes scope ps
