-- How the trace of a design goes on with the steps of its simulation.
use Rattle.std.specs.Prelude.{◌≡◌, [], Result, Ok, Err}
use Rattle.vd_trees.specs.declared.traces.Cycle.{Cycle}
use Rattle.vd_trees.specs.declared.traces.Cycle.TheVariants.{Next, Quiet as QuietCycle}
use Rattle.vd_kernel.specs.Cycles.{State}
use Rattle.vd_kernel.specs.Traces.{Step, Trace, Quiet, outcome, led_by, unless_stopped}
use Rattle.vd_simulation.specs.declared.ends.SimulationEnd.{SimulationEnd}
use Rattle.vd_simulation.specs.declared.ends.SimulationEnd.TheVariants.{Stop, Memory}
use Rattle.vd_simulation.specs.Turns.{view_of}
use Rattle.vd_simulation.specs.Rounds.{optional_stop}
use Rattle.vd_simulation.specs.Simulations.{Simulating, state_of, stop_in}

-- the step that a simulation came to last, as a trace shows it
abbrev pub step_in : {P : Type 0} → Simulating P → Step
step_in s =
    record {
      time = s.time;
      delta = s.delta;
      reports = s.reports;
      outcome = outcome (optional_stop (stop_in s.end)) (view_of s.seen).shown;
    }

-- a trace from that step on: where it stopped there is no more, else what goes on from the state
abbrev pub from_step : {P S : Type 0} → (P → S) → Simulating P → (State S → Trace) → Trace
from_step state s go = led_by (step_in s) (unless_stopped (optional_stop (stop_in s.end)) (go (state_of state s)))

-- This is the trace from a call for the next cycle on, which had this answer, if memory hasn't run out.
abbrev pub IsTraceOn : {P S : Type 0} → (P → S) → Result Cycle SimulationEnd → Simulating P → (State S → Trace) → Trace → Type 0
IsTraceOn state (Ok QuietCycle) s go t = t ≡ record { steps = []; end = Quiet }
IsTraceOn state (Ok Next) s go t = t ≡ from_step state s go
IsTraceOn state (Err (Stop stop)) s go t = t ≡ from_step state s go
IsTraceOn state (Err Memory) s go t = Unit {0}
