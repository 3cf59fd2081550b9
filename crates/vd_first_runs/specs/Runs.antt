-- A run of an elaborated design: what the code keeps of it, and where it is.
use Rattle.std.specs.Prelude.{◌≡◌, ◌≢◌, ℕ, List, map, replicate, Option, Some, None, Result, Ok, Err, slice_get}
use Rattle.vd_trees.specs.declared.paths.Path.{Path}
use Rattle.vd_trees.specs.declared.paths.Scope.{Scope}
use Rattle.vd_trees.specs.declared.traces.Stop.{Stop}
use Rattle.vd_trees.specs.declared.traces.Cycle.{Cycle}
use Rattle.vd_trees.specs.declared.traces.Cycle.TheVariants.{Quiet}
use Rattle.vd_trees.specs.declared.traces.CycleEnd.{CycleEnd}
use Rattle.vd_trees.specs.declared.traces.CycleEnd.TheVariants as ends
use Rattle.vd_trees.specs.Traces.{stops}
use Rattle.vd_kernel.specs.Cycles.{State, Moment, initialised}
use Rattle.vd_kernel.specs.Traces.{step_of, with_two}
use Rattle.vd_kernel.specs.States.{SameState, SameMoment}
use Rattle.vd_kernel.specs.SignalValues.{nothing_given}
use Rattle.vd_simulation.specs.declared.round.ProcessStop.{ProcessStop}
use Rattle.vd_simulation.specs.declared.ends.SimulationEnd.{SimulationEnd}
use Rattle.vd_simulation.specs.declared.ends.SimulationEnd.TheVariants as simulation
use Rattle.vd_simulation.specs.Designs.{IsDesign}
use Rattle.vd_simulation.specs.Simulations.{Simulating, state_of, stop_in, IsMoment}
use Rattle.vd_first_elaboration.specs.Tops.{TopUnits}
use Rattle.vd_first_elaboration.specs.Processes.{Process}
use Rattle.vd_first_elaboration.specs.Elaboration.{Elaborated, elaborated_units}
use Rattle.vd_first_elaboration.specs.Traces.{paths_of, scope_or_none, stop_text, outcome_of}
use Rattle.vd_first_processes.specs.Resolved.{Resolved, IsResolved, itself}
use Rattle.vd_first_runs.specs.Elaborations.{limit_of}

-- the paths of the scalar signals, where each of so many processes stands, and the simulation
pub record Running : Type 0 where
  pub paths : List Path
  pub scope : Scope
  pub process_count : ℕ
  pub simulation : Simulating Resolved

-- the names of a design's objects, in the order of their numbers
abbrev pub object_names : Elaborated → List (List ℕ)
object_names e = map (λ (p : Path). p.object) (paths_of e)

-- This is a run of the design, which stays so from step to step.
pub record IsRunOf (e : Elaborated) (run : Running) : Type 0 where
  pub units : TopUnits
  pub is_elaborated : e ≡ elaborated_units units
  pub paths_are : run.paths ≡ paths_of e
  pub scopes_are : e.scopes ≡ replicate run.process_count run.scope
  pub design : IsDesign e.model.shape run.simulation.net.signals

-- The run is in this state between two cycles: signals have their numbers, and each process is resolved.
pub record IsAt (e : Elaborated) (run : Running) (t : State Process) : Type 0 where
  pub run_of : IsRunOf e run
  pub same : SameState (λ i j. i ≡ j) (IsResolved (object_names e)) (state_of itself run.simulation) t

-- The run has come through this step, which this has stopped, if anything.
pub record HasComeBy (e : Elaborated) (run : Running) (stop : Option ProcessStop) (x : Moment Process) : Type 0 where
  pub run_of : IsRunOf e run
  pub own : Moment Resolved
  pub is_own : IsMoment itself stop run.simulation own
  pub same : SameMoment (λ i j. i ≡ j) (IsResolved (object_names e)) own x

abbrev pub HasCome : Elaborated → Running → Moment Process → Type 0
HasCome e run x = HasComeBy e run (stop_in run.simulation.end) x

-- The run has begun, with initialisation.
pub record IsStarted (e : Elaborated) (run : Running) : Type 0 where
  pub within_limits : limit_of e ≡ None
  pub one_source : with_two 0 e.model.shape.signals ≡ None
  pub come : HasCome e run (initialised e.model nothing_given)

-- ---- answers

-- what a run has stopped by, in its last step
abbrev pub stop_told : Running → ProcessStop → Stop
stop_told run stop =
    record {
      kind = stop.kind;
      time = run.simulation.time;
      delta = run.simulation.delta;
      scope = scope_or_none (slice_get (replicate run.process_count run.scope) stop.process);
      text = stop_text stop.kind run.simulation.reports;
    }

-- The answer of a run that has ended: its end, or that memory ran out over the answer.
abbrev pub IsEndAnswer : Running → SimulationEnd → Result Cycle CycleEnd → Type 0
IsEndAnswer run (simulation.Stop stop) (Ok step) = ⊥
IsEndAnswer run (simulation.Stop stop) (Err (ends.Stop told)) = told ≡ stop_told run stop
IsEndAnswer run (simulation.Stop stop) (Err ends.Memory) = Unit {0}
IsEndAnswer run simulation.Memory answer = answer ≡ Err ends.Memory

-- an answer for a step that the run has come through. Of one that stopped it is the stop that a trace shows
abbrev pub AnswersStep : Elaborated → Result Cycle CycleEnd → Running → Moment Process → Type 0
AnswersStep e (Ok step) run x = HasCome e run x × (x.round.stop ≡ None)
AnswersStep e (Err (ends.Stop stop)) run x = HasCome e run x × (outcome_of e (step_of x) (step_of x).outcome ≡ stops stop)
AnswersStep e (Err ends.Memory) run x = Unit {0}

-- What a run that goes on answers to a call for the next cycle, from the cycle at a time and the next time, if there is one. It is quiet
-- exactly where there is none.
abbrev pub AnswersCycle : Elaborated → (ℕ → Moment Process) → Option ℕ → Result Cycle CycleEnd → Running → Type 0
AnswersCycle e at None answer run = answer ≡ Ok Quiet
AnswersCycle e at (Some now) answer run = (answer ≢ Ok Quiet) × AnswersStep e answer run (at now)
