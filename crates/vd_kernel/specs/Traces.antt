-- Traces: what can be seen of a simulation, step by step (IEEE 1076-1993, 12.6.4; IEEE 1076-2019, 14.7.5).
use Rattle.std.specs.Prelude.{ℕ, zero, suc, Bool, List, [], ◌∷◌, Option, Some, None, nat_lt, not, ◌&&◌, length, if◌then◌else◌}
use Rattle.vd_values.specs.declared.scalar.Scalar.{Scalar}
use Rattle.vd_trees.specs.declared.traces.Report.{Report}
use Rattle.vd_kernel.specs.Models.{Signal, Model, Stimulus}
use Rattle.vd_kernel.specs.Cycles.{State, ProcessStop, Moment, next_time, initialised, cycle, state_after}

-- what a step leaves to be seen: what each signal shows, or a stop
pub data Outcome : Type 0 where
  Shows : (values : ℕ → Scalar) → Outcome
  Stopped : (stop : ProcessStop) → Outcome

pub record Step : Type 0 where
  pub time : ℕ
  pub delta : ℕ
  pub reports : List Report
  pub outcome : Outcome

-- How a trace ends.
pub data End : Type 0 where
  -- after the cycles that were asked for, with something still to come
  Done : End
  -- with neither transaction nor timeout
  Quiet : End
  -- by a stop in its last step
  Halted : End
  -- before the first step, since this unresolved signal has two sources
  TwoSources : (signal : ℕ) → End

pub record Trace : Type 0 where
  pub steps : List Step
  pub end : End

abbrev pub outcome : Option ProcessStop → (ℕ → Scalar) → Outcome
outcome None values = Shows values
outcome (Some stop) values = Stopped stop

abbrev pub step_of : {P : Type 0} → Moment P → Step
step_of x =
    record { time = x.time; delta = x.delta; reports = x.round.reports; outcome = outcome x.round.stop x.view.shown }

abbrev pub led_by : Step → Trace → Trace
led_by step rest = record { steps = step ∷ rest.steps; end = rest.end }

-- the rest of a trace after a step, unless that step stopped
abbrev pub unless_stopped : Option ProcessStop → Trace → Trace
unless_stopped None rest = rest
unless_stopped (Some stop) rest = record { steps = []; end = Halted }

-- what goes on at the next time, if there is one
abbrev pub at_next : Option ℕ → (ℕ → Trace) → Trace
at_next None go = record { steps = []; end = Quiet }
at_next (Some now) go = go now

-- a step, and what goes on after it
abbrev pub moment_on : {P : Type 0} → Moment P → (State P → Trace) → Trace
moment_on x go = led_by (step_of x) (unless_stopped x.round.stop (go (state_after x)))

-- the trace from a state on, with at most n cycles
abbrev pub trace_from : {P : Type 0} → Model P → Stimulus → ℕ → State P → Trace
trace_from m given zero s = at_next (next_time s) (λ now. record { steps = []; end = Done })
trace_from m given (suc n) s = at_next (next_time s) (λ now. moment_on (cycle m given s now) (trace_from m given n))

-- an unresolved signal with two sources, which is an error (IEEE 1076-1993, 4.3.1.2)
abbrev pub has_two : Signal → Bool
has_two s = not s.is_resolved && nat_lt 1 (length s.sources)

-- The first such signal, where the first signal of the list has number i. The outside drives no unresolved port that has a source, so
-- the stimulus doesn't matter here.
abbrev pub with_two : ℕ → List Signal → Option ℕ
with_two i [] = None
with_two i (s ∷ ss) = if has_two s then Some i else with_two (suc i) ss

abbrev pub unless_two : Option ℕ → Trace → Trace
unless_two None t = t
unless_two (Some i) t = record { steps = []; end = TwoSources i }

-- The trace of an elaborated design after initialisation and at most n cycles, delta cycles counted.
abbrev pub trace : {P : Type 0} → Model P → Stimulus → ℕ → Trace
trace m given n = unless_two (with_two 0 m.shape.signals) (moment_on (initialised m given) (trace_from m given n))
