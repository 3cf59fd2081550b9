-- What the code's simulation stands for, and what its steps come to.
use Rattle.std.specs.Prelude.{◌≡◌, ◌≢◌, ℕ, List, Option, Some, None, Result, Ok, Err, map}
use Rattle.vd_trees.specs.declared.traces.Report.{Report}
use Rattle.vd_trees.specs.declared.traces.Cycle.{Cycle}
use Rattle.vd_trees.specs.declared.traces.Cycle.TheVariants.{Quiet}
use Rattle.vd_kernel.specs.Models.{View, Cause, Turn, Shape, Model}
use Rattle.vd_kernel.specs.Cycles.{State, Moment}
use Rattle.vd_kernel.specs.Simulated.{Simulated}
use Rattle.vd_simulation.specs.declared.process.Seen.{Seen}
use Rattle.vd_simulation.specs.declared.round.Waiting.{Waiting}
use Rattle.vd_simulation.specs.declared.round.ProcessStop.{ProcessStop}
use Rattle.vd_simulation.specs.declared.ends.SimulationEnd.{SimulationEnd}
use Rattle.vd_simulation.specs.declared.ends.SimulationEnd.TheVariants.{Stop, Memory}
use Rattle.vd_simulation.specs.Turns.{view_of}
use Rattle.vd_simulation.specs.Rounds.{paused, IsRound}

-- what the code keeps of a simulation between two cycles
pub record Simulating (P : Type 0) : Type 0 where
  pub time : ℕ
  pub delta : ℕ
  pub net : Simulated
  pub seen : Seen
  pub processes : List (Waiting P)
  pub reports : List Report
  pub end : Option SimulationEnd

-- the state that it is in
abbrev pub state_of : {P S : Type 0} → (P → S) → Simulating P → State S
state_of state s =
    record { time = s.time; delta = s.delta; drivers = s.net.drivers; view = view_of s.seen; processes = map (paused state) s.processes }

-- the design of these signals whose processes run in these steps and begin in these states
abbrev pub modelled : {S : Type 0} → Shape → (S → Cause → View → Turn S) → List S → Model S
modelled shape step processes = record { shape = shape; processes = processes; step = step }

-- The simulation has come through this step, which this has stopped, if anything.
pub record IsMoment {P S : Type 0} (state : P → S) (stop : Option ProcessStop) (s : Simulating P) (x : Moment S) : Type 0 where
  pub time_is : s.time ≡ x.time
  pub delta_is : s.delta ≡ x.delta
  pub view_is : view_of s.seen ≡ x.view
  pub round_is : IsRound stop s.net.drivers s.reports (map (paused state) s.processes) x.round

-- The step that a simulation came to last is still the same.
pub record StaysAt {P : Type 0} (old new : Simulating P) : Type 0 where
  pub time_is : new.time ≡ old.time
  pub delta_is : new.delta ≡ old.delta
  pub seen_is : new.seen ≡ old.seen
  pub reports_are : new.reports ≡ old.reports

-- what has stopped a simulation with this end
abbrev pub stop_in : Option SimulationEnd → Option ProcessStop
stop_in None = None
stop_in (Some (Stop stop)) = Some stop
stop_in (Some Memory) = None

-- the end of a simulation that has given this answer
abbrev pub end_of : Result Cycle SimulationEnd → Option SimulationEnd
end_of (Ok step) = None
end_of (Err end) = Some end

-- a simulation has come through this step, unless memory ran out
abbrev pub HasStepped : {P S : Type 0} → (P → S) → Option SimulationEnd → Simulating P → Moment S → Type 0
HasStepped state None s x = IsMoment state None s x
HasStepped state (Some (Stop stop)) s x = IsMoment state (Some stop) s x
HasStepped state (Some Memory) s x = Unit {0}

-- What a simulation that goes on answers to a call for the next cycle, from the cycle that is defined at a time and the next time, if
-- there is one. It is quiet exactly where there is none.
abbrev pub IsNextStep : {P S : Type 0} → (P → S) → (ℕ → Moment S) → Option ℕ → Result Cycle SimulationEnd → Simulating P → Type 0
IsNextStep state at None answer s = answer ≡ Ok Quiet
IsNextStep state at (Some now) answer s = (answer ≢ Ok Quiet) × HasStepped state (end_of answer) s (at now)
