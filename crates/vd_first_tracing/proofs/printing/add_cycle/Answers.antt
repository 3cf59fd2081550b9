use Rattle.std.proofs.Common.{◌≡◌, ◌++◌, ◌+◌, Ok, Err, sym, subst}
use Rattle.vd_trees.specs.declared.traces.Stop.{Stop}
use Rattle.vd_trees.specs.TraceText.{step_lines}
use Rattle.vd_kernel.specs.Cycles.{next_time, cycle}
use Rattle.vd_kernel.specs.SignalValues.{nothing_given}
use Rattle.vd_first_elaboration.specs.Traces.{paths_of, types_of}
use Rattle.vd_first_runs.specs.Runs.{AnswersCycle}
use Rattle.vd_trace_text.specs.Types.{types_behind}
use Rattle.vd_trace_text.specs.Steps.{stopped_step}
use Rattle.vd_first_tracing.specs.Printing.{HasPrinted}
use Rattle.vd_first_tracing.proofs.PrintLemmas.{next, quiet_end, stop_end}
use Rattle.vd_first_tracing.proofs.printing.add_cycle.Goals as goal

pub returns-in_ok-add_shown-in-Ok-Next-clause-cycle : goal.returns-in_ok-add_shown-in-Ok-Next-clause-cycle
returns-in_ok-add_shown-in-Ok-Next-clause-cycle c = λ e cycles left same p.
    let new = c.cycle.new.self in
    let after = c.add_shown.new.transcript.text.items in
    let before = c.args.transcript.now in
    let answers = subst (λ r. AnswersCycle e (cycle e.model nothing_given p.state) (next_time p.state) (Ok r) new) c.in-Ok-Next.field-0-is (c.in-Ok-Next.ensures.step c.requires.going e p.state p.is_at) in
    subst (λ vs. HasPrinted e cycles new after (c.args.number + 1) left vs) (sym c.in_ok-add_shown-in-Ok-Next.ensures.values)
    (next e cycles c.args.run.now new before.text.items c.args.number left before.values.items p (types_behind c.args.types.now) same after c.in_ok-add_shown-in-Ok-Next.ensures.text answers)

pub returns-in_ok-add_quiet-in-Ok-Quiet-clause-cycle : goal.returns-in_ok-add_quiet-in-Ok-Quiet-clause-cycle
returns-in_ok-add_quiet-in-Ok-Quiet-clause-cycle c = λ e cycles left same p.
    let new = c.cycle.new.self in
    let before = c.args.transcript.now in
    let answers = subst (λ r. AnswersCycle e (cycle e.model nothing_given p.state) (next_time p.state) (Ok r) new) c.in-Ok-Quiet.field-0-is (c.in-Ok-Quiet.ensures.step c.requires.going e p.state p.is_at) in
    quiet_end e cycles c.args.run.now new before.text.items c.args.number left before.values.items p c.add_quiet.new.text.items c.in_ok-add_quiet-in-Ok-Quiet.ensures.written answers

pub returns-in_ok-add_stopped_step-in-Err-Stop-clause-cycle : goal.returns-in_ok-add_stopped_step-in-Err-Stop-clause-cycle
returns-in_ok-add_stopped_step-in-Err-Stop-clause-cycle c = λ e cycles left same p.
    let new = c.cycle.new.self in
    let before = c.args.transcript.now in
    let answers = subst (λ r. AnswersCycle e (cycle e.model nothing_given p.state) (next_time p.state) (Err r) new) c.in-Err-Stop.field-0-is (c.in-Err-Stop.ensures.step c.requires.going e p.state p.is_at) in
    let after = c.add_stopped_step.new.text.items in
    let lines = λ (s : Stop). step_lines (paths_of e) (types_of e) c.args.number before.values.items (stopped_step new.simulation.time new.simulation.delta new.simulation.reports s) in
    let text = subst (λ (s : Stop). after ≡ before.text.items ++ lines s) c.in-Err-Stop.stop-is
    (rw (← c.time.ensures, ← c.delta.ensures, ← c.reports.ensures) (c.in_ok-add_stopped_step-in-Err-Stop.ensures.written (paths_of e) (types_of e) before.values.items)) in
    stop_end e cycles c.args.run.now new before.text.items c.args.number left before.values.items p c.in-Err-Stop.stop after text answers
