-- Worked examples: what the definitions make of a few small drivers and designs.
use Rattle.std.specs.Prelude.{◌≡◌, ℕ, zero, suc, ◌*◌, Bool, true, false, List, [], ◌∷◌, Option, Some, None, map, pos}
use Rattle.vd_values.specs.declared.scalar.Scalar.{Scalar}
use Rattle.vd_values.specs.declared.scalar.Scalar.TheVariants.{Integer, Literal}
use Rattle.vd_values.specs.declared.scalar.StopKind.TheVariants.{Failure}
use Rattle.vd_trees.specs.declared.traces.Report.{Report}
use Rattle.vd_kernel.specs.declared.assignments.Transaction.{Transaction}
use Rattle.vd_kernel.specs.declared.assignments.Delay.TheVariants.{Transport, Inertial}
use Rattle.vd_kernel.specs.declared.assignments.Assignment.{Assignment}
use Rattle.vd_kernel.specs.declared.assignments.Source.{Source}
use Rattle.vd_kernel.specs.declared.assignments.Source.TheVariants.{Driver as ByDriver, Port as ByPort}
use Rattle.vd_kernel.specs.Drivers.{assigned}
use Rattle.vd_kernel.specs.Models.{Signal, View, Cause, Waits, Stops, Turn, Model, Stimulus}
use Rattle.vd_kernel.specs.Cycles.{ProcessStop}
use Rattle.vd_kernel.specs.Traces.{Outcome, Shows, Stopped, Step, End, Done, Quiet, Halted, TwoSources, Trace, trace}
use Rattle.vd_kernel.specs.Correspondence.{SameRun}

-- Words of the examples

-- a number of nanoseconds, in femtoseconds
abbrev pub ns : ℕ → ℕ
ns n = n * 1000000

abbrev pub at : ℕ → Scalar → Transaction
at time value = record { time = time; value = value }

-- four values of std_ulogic: 'U', 'X', '0' and '1'
abbrev pub uninitialised : Scalar
uninitialised = Literal 0

abbrev pub unknown : Scalar
unknown = Literal 1

abbrev pub low : Scalar
low = Literal 2

abbrev pub high : Scalar
high = Literal 3

abbrev pub sets : ℕ → ℕ → Scalar → Assignment
sets driver time value = record { driver = driver; delay = Inertial; new = at time value }

-- One turn of a process: it assigns, and waits for signals and until a time; or it reports a failure, which stops the simulation.
pub data Move : Type 0 where
  Goes : (assignments : List Assignment) → (on : List ℕ) → (timeout : Option ℕ) → Move
  Fails : (report : Report) → Move

-- A process that makes these moves, whatever it sees, and then waits for ever.
abbrev pub played : List Move → Cause → View → Turn (List Move)
played [] c v = record { assignments = []; reports = []; ending = Waits (record { state = []; on = []; timeout = None }) }
played (Goes assignments on timeout ∷ rest) c v =
    record { assignments = assignments; reports = []; ending = Waits (record { state = rest; on = on; timeout = timeout }) }
played (Fails report ∷ rest) c v = record { assignments = []; reports = report ∷ []; ending = Stops Failure }

abbrev pub design : List Signal → List ℕ → List (List Move) → Model (List Move)
design signals driven processes =
    record { shape = record { signals = signals; driven = driven; inputs = [] }; processes = processes; step = played }

-- a signal with these sources and no other trait
abbrev pub plain : Bool → Scalar → List Source → Signal
plain is_resolved initial sources =
    record { initial = initial; is_resolved = is_resolved; sources = sources; actual = None; is_out = false; input = None }

-- nothing comes from outside
abbrev pub nothing : Stimulus
nothing i = []

-- what a step leaves to be seen of the first signals
pub data Sight : Type 0 where
  Values : (values : List Scalar) → Sight
  Stop : (stop : ProcessStop) → Sight

abbrev pub first_values : ℕ → (ℕ → Scalar) → List Scalar
first_values zero values = []
first_values (suc n) values = values 0 ∷ first_values n (λ i. values (suc i))

abbrev pub sight : ℕ → Outcome → Sight
sight n (Shows values) = Values (first_values n values)
sight n (Stopped stop) = Stop stop

abbrev pub step_seen : ℕ → Step → ℕ × ℕ × List Report × Sight
step_seen n s = (s.time, s.delta, s.reports, sight n s.outcome)

-- a trace, as far as the first n signals go
abbrev pub trace_seen : ℕ → Trace → List (ℕ × ℕ × List Report × Sight) × End
trace_seen n t = (map (step_seen n) t.steps, t.end)

-- Drivers

-- The list of the standard's own example of an inertial assignment (IEEE 1076-1993, 8.4.1): 2 after 3 ns, 2 after 12 ns, 12 after
-- 13 ns, 5 after 20 ns and 8 after 42 ns.
abbrev pub projected : List Transaction
projected =
    at (ns 3) (Integer (pos 2)) ∷ at (ns 12) (Integer (pos 2)) ∷ at (ns 13) (Integer (pos 12)) ∷ at (ns 20) (Integer (pos 5)) ∷ at (ns 42) (Integer (pos 8)) ∷ []

abbrev pub new_one : Transaction
new_one = at (ns 20) (Integer (pos 12))

-- `12 after 20 ns` keeps the 12 directly before it, and no pulse, since no shorter limit on rejection is given
abbrev pub InertialKeepsTheRun : Type 0
InertialKeepsTheRun = assigned Inertial new_one projected ≡ at (ns 13) (Integer (pos 12)) ∷ new_one ∷ []

-- `transport 12 after 20 ns` keeps all earlier ones, and drops the others
abbrev pub TransportKeepsTheEarlier : Type 0
TransportKeepsTheEarlier =
    assigned Transport new_one projected ≡ at (ns 3) (Integer (pos 2)) ∷ at (ns 12) (Integer (pos 2)) ∷ at (ns 13) (Integer (pos 12)) ∷ new_one ∷ []

-- a pulse that is shorter than the delay is swallowed under inertial delay, and is kept under transport delay
abbrev pub APulseIsSwallowed : Type 0
APulseIsSwallowed =
    (assigned Inertial (at (ns 6) low) (at (ns 5) high ∷ []) ≡ at (ns 6) low ∷ [])
    × (assigned Transport (at (ns 6) low) (at (ns 5) high ∷ []) ≡ at (ns 5) high ∷ at (ns 6) low ∷ [])

-- Traces

-- signal s : std_ulogic := '0'; process begin s <= '1' after 5 ns; wait; end process;
abbrev pub delayed : Model (List Move)
delayed = design (plain false low (ByDriver 0 ∷ []) ∷ []) (0 ∷ []) ((Goes (sets 0 (ns 5) high ∷ []) [] None ∷ []) ∷ [])

abbrev pub ADelayPasses : Type 0
ADelayPasses =
    trace_seen 1 (trace delayed nothing 3) ≡ ((0, 0, [], Values (low ∷ [])) ∷ (5000000, 0, [], Values (high ∷ [])) ∷ [], Quiet)

-- without a cycle, and with the transaction still to come
abbrev pub ATransactionIsLeft : Type 0
ATransactionIsLeft = trace_seen 1 (trace delayed nothing 0) ≡ ((0, 0, [], Values (low ∷ [])) ∷ [], Done)

-- a process that does nothing
abbrev pub idle : Model (List Move)
idle = design (plain false low (ByDriver 0 ∷ []) ∷ []) (0 ∷ []) ([] ∷ [])

-- without a cycle, and with nothing to come
abbrev pub NothingIsLeft : Type 0
NothingIsLeft = trace_seen 1 (trace idle nothing 0) ≡ ((0, 0, [], Values (low ∷ [])) ∷ [], Quiet)

-- signal v : std_logic_vector(1 downto 0); two processes, one with v <= "10"; and one with v <= "00";
abbrev pub contended : Model (List Move)
contended =
    design
    (plain true uninitialised (ByDriver 0 ∷ ByDriver 2 ∷ []) ∷ plain true uninitialised (ByDriver 1 ∷ ByDriver 3 ∷ []) ∷ [])
    (0 ∷ 1 ∷ 0 ∷ 1 ∷ [])
    ((Goes (sets 0 0 high ∷ sets 1 0 low ∷ []) [] None ∷ []) ∷ (Goes (sets 2 0 low ∷ sets 3 0 low ∷ []) [] None ∷ []) ∷ [])

-- v(1) is 'X' and v(0) is '0'
abbrev pub SourcesAreResolved : Type 0
SourcesAreResolved =
    trace_seen 2 (trace contended nothing 1)
    ≡ ((0, 0, [], Values (uninitialised ∷ uninitialised ∷ [])) ∷ (0, 1, [], Values (unknown ∷ low ∷ [])) ∷ [], Quiet)

-- signal s : std_ulogic; with two processes that drive it
abbrev pub twice_driven : Model (List Move)
twice_driven = design (plain false uninitialised (ByDriver 0 ∷ ByDriver 1 ∷ []) ∷ []) (0 ∷ 0 ∷ []) ([] ∷ [] ∷ [])

abbrev pub TwoSourcesStop : Type 0
TwoSourcesStop = (given : Stimulus) (n : ℕ) → trace twice_driven given n ≡ record { steps = []; end = TwoSources 0 }

-- port (a : in std_ulogic := 'U'); and no process
abbrev pub listening : Model (List Move)
listening =
    record {
      shape = record {
        signals = record { initial = uninitialised; is_resolved = false; sources = []; actual = None; is_out = false; input = Some 0 } ∷ [];
        driven = [];
        inputs = 0 ∷ [];
      };
      processes = [];
      step = played;
    }

-- two transactions from outside, and one cycle
abbrev pub AStimulusIsCutOff : Type 0
AStimulusIsCutOff =
    trace_seen 1 (trace listening (λ i. at (ns 5) high ∷ at (ns 9) low ∷ []) 1)
    ≡ ((0, 0, [], Values (uninitialised ∷ [])) ∷ (5000000, 0, [], Values (high ∷ [])) ∷ [], Done)

-- A resolved signal with a driver of its own, an `out` port inside that drives it too, and an `in` port inside that reads it. All
-- begin at 'U'. The design assigns '0', the instance '1'.
abbrev pub nested : Model (List Move)
nested =
    design
    (plain true uninitialised (ByDriver 0 ∷ ByPort 1 ∷ [])
    ∷ record { initial = uninitialised; is_resolved = false; sources = ByDriver 1 ∷ []; actual = None; is_out = true; input = None }
    ∷ record { initial = uninitialised; is_resolved = false; sources = []; actual = Some 0; is_out = false; input = None }
    ∷ [])
    (0 ∷ 1 ∷ [])
    ((Goes (sets 0 0 low ∷ []) [] None ∷ []) ∷ (Goes (sets 1 0 high ∷ []) [] None ∷ []) ∷ [])

-- the signal and the `in` port get 'X', the `out` port shows what it drives
abbrev pub PortsLeadInAndOut : Type 0
PortsLeadInAndOut =
    trace_seen 3 (trace nested nothing 1)
    ≡ ((0, 0, [], Values (uninitialised ∷ uninitialised ∷ uninitialised ∷ [])) ∷ (0, 1, [], Values (unknown ∷ high ∷ unknown ∷ [])) ∷ [], Quiet)

-- Two processes. One sets the signal after 2 ns and waits for ever. The other waits for an event of the signal, then 3 ns, and then
-- reports a failure.
abbrev pub failing : Report → Model (List Move)
failing report =
    design (plain false low (ByDriver 0 ∷ []) ∷ []) (0 ∷ [])
    ((Goes (sets 0 (ns 2) high ∷ []) [] None ∷ []) ∷ (Goes [] (0 ∷ []) None ∷ Goes [] [] (Some (ns 5)) ∷ Fails report ∷ []) ∷ [])

abbrev pub AFailureStops : Type 0
AFailureStops =
    (report : Report)
    → trace_seen 1 (trace (failing report) nothing 9)
    ≡ ((0, 0, [], Values (low ∷ [])) ∷ (2000000, 0, [], Values (high ∷ [])) ∷ (5000000, 0, report ∷ [], Stop (record { kind = Failure; process = 1 })) ∷ [], Halted)

-- Runs

-- a design has the run that it has
abbrev pub OneRunEach : Type 0
OneRunEach = (m : Model (List Move)) → SameRun (λ i j. i ≡ j) m m
