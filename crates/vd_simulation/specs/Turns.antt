-- What values of the code stand for: what processes see, and what they do.
use Rattle.std.specs.Prelude.{None, slice_index_or}
use Rattle.vd_kernel.specs.Models.{View, Cause, Start, Wake, Ending, Waits, Stops, Turn}
use Rattle.vd_kernel.specs.SignalValues.{value_at}
use Rattle.vd_simulation.specs.declared.process.Seen.{Seen}
use Rattle.vd_simulation.specs.declared.process.Cause.{Cause as CauseCode}
use Rattle.vd_simulation.specs.declared.process.Cause.TheVariants.{Start as StartCode, Wake as WakeCode}
use Rattle.vd_simulation.specs.declared.process.Turn.{Turn as TurnCode}
use Rattle.vd_simulation.specs.declared.process.Ending.{Ending as EndingCode}
use Rattle.vd_simulation.specs.declared.process.Ending.TheVariants.{Waits as WaitsCode, Stops as StopsCode}

-- what the processes see, where each signal shows its effective value
abbrev pub view_of : Seen → View
view_of s =
    record {
      time = s.time;
      value = value_at s.values.items;
      shown = value_at s.values.items;
      before = λ i. slice_index_or s.before.items i None;
    }

abbrev pub cause_of : CauseCode → Cause
cause_of StartCode = Start
cause_of (WakeCode event due) = Wake event due

-- how a process that is in this state then leaves a run of its statements
abbrev pub ending_of : {S : Type 0} → S → EndingCode → Ending S
ending_of state (WaitsCode on timeout) = Waits (record { state = state; on = on.items; timeout = timeout })
ending_of state (StopsCode kind) = Stops kind

abbrev pub turn_of : {S : Type 0} → S → TurnCode → Turn S
turn_of state t = record { assignments = t.assignments.items; reports = t.reports.items; ending = ending_of state t.ending }
