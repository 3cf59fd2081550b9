-- What the turns of the code's processes come to, beside a round of the definitions.
use Rattle.std.specs.Prelude.{◌≡◌, Bool, true, false, List, [], ◌++◌, Option, Some, None}
use Rattle.vd_values.specs.declared.scalar.StopKind.{StopKind}
use Rattle.vd_trees.specs.declared.traces.Report.{Report}
use Rattle.vd_kernel.specs.Drivers.{Driver, after_assignments}
use Rattle.vd_kernel.specs.Models.{View, Cause, Start, Paused, Ending, Waits, Stops, Turn}
use Rattle.vd_kernel.specs.Cycles.{Round, ProcessStop, turn}
use Rattle.vd_simulation.specs.declared.round.Waiting.{Waiting}
use Rattle.vd_simulation.specs.declared.round.ProcessStop.{ProcessStop as StopCode}

-- a process of the code that has suspended
abbrev pub paused : {P S : Type 0} → (P → S) → Waiting P → Paused S
paused state w = record { state = state w.process; on = w.on.items; timeout = w.timeout }

-- a process before its first run, which waits for nothing
abbrev pub begun : {S : Type 0} → S → Paused S
begun state = record { state = state; on = []; timeout = None }

-- the turn of a process: at initialisation, or in a cycle
abbrev pub turn_in : {S : Type 0} → (first : Bool) → (S → Cause → View → Turn S) → View → Paused S → Turn S
turn_in true step v p = step p.state Start v
turn_in false step v p = turn step v p

-- a process that waits is this one; one that stops has this kind of stop
abbrev pub HasEnded : {S : Type 0} → Option StopKind → Paused S → Ending S → Type 0
HasEnded None p (Waits q) = p ≡ q
HasEnded None p (Stops kind) = ⊥
HasEnded (Some kind) p (Waits q) = ⊥
HasEnded (Some kind) p (Stops other) = kind ≡ other

-- a process has taken this turn
pub record HasTaken {S : Type 0} (stop : Option StopKind) (drivers after : List Driver) (reports more : List Report) (p : Paused S) (t : Turn S) : Type 0 where
  pub assigned : after ≡ after_assignments drivers t.assignments
  pub reported : more ≡ reports ++ t.reports
  pub ended : HasEnded stop p t.ending

abbrev pub stop_of : StopCode → ProcessStop
stop_of s = record { kind = s.kind; process = s.process }

abbrev pub optional_stop : Option StopCode → Option ProcessStop
optional_stop None = None
optional_stop (Some s) = Some (stop_of s)

-- where nothing stops, the processes are those of the round
abbrev pub AreProcesses : {S : Type 0} → Option StopCode → List (Paused S) → List (Paused S) → Type 0
AreProcesses None ps qs = ps ≡ qs
AreProcesses (Some s) ps qs = Unit {0}

-- The turns came to this round. Behind a stop no process is looked at any more.
pub record IsRound {S : Type 0} (stop : Option StopCode) (drivers : List Driver) (reports : List Report) (ps : List (Paused S)) (r : Round S) : Type 0 where
  pub drivers_are : drivers ≡ r.drivers
  pub reports_are : reports ≡ r.reports
  pub stop_is : optional_stop stop ≡ r.stop
  pub processes_are : AreProcesses stop ps r.processes
