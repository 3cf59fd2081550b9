use Rattle.std.proofs.Common.{◌≡◌, ◌≤◌, ◌+◌, ◌-◌, None}
use Rattle.vd_first_elaboration.specs.Elaboration.{Elaborated}
use Rattle.vd_first_elaboration.specs.Traces.{types_of}
use Rattle.vd_trace_text.specs.Types.{types_behind}
use Rattle.vd_first_tracing.specs.Printing.{HasPrinted}
use Rattle.vd_first_tracing.proofs.printing.add_cycles.Given as goal

-- the run goes on, its text is what was printed so far, and no cycle has had two deltas
abbrev pub invariant-loop-number : goal.invariant-loop-number
invariant-loop-number l =
    record {
      going : l.run.simulation.end ≡ None;
      delta : l.run.simulation.delta ≤ l.number;
      printed : (e : Elaborated) → types_behind l.types ≡ types_of e
          → HasPrinted e l.cycles l.fn.run l.fn.transcript.text.items 1 l.cycles l.fn.transcript.values.items
          → HasPrinted e l.cycles l.run l.transcript.text.items (l.number + 1) (l.cycles - l.number) l.transcript.values.items;
    }
