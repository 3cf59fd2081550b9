use Rattle.std.proofs.Common.{◌≡◌, None, Ok, Err, refl, subst}
use Rattle.vd_kernel.specs.Cycles.{State, next_time, cycle}
use Rattle.vd_kernel.specs.SignalValues.{nothing_given}
use Rattle.vd_first_elaboration.specs.Processes.{Process}
use Rattle.vd_first_elaboration.specs.Elaboration.{Elaborated}
use Rattle.vd_first_runs.specs.Places.{scope_at}
use Rattle.vd_first_runs.specs.Runs.{Running, IsAt, AnswersCycle}
use Rattle.vd_first_runs.proofs.RunLemmas.{goes_to, ends_by}
use Rattle.vd_first_runs.proofs.run.Run.cycle.Goals as goal

pub returns-in-Ok-clause-step : goal.returns-in-Ok-clause-step
returns-in-Ok-clause-step c =
    let i = c.self.inside in
    let old : Running = record { paths = i.paths.items; scope = scope_at i.entity i.architecture; process_count = i.process_count; simulation = i.simulation } in
    let new : Running = record old { simulation = c.cycle.new.self } in
    let Answers : Running → Type 0 = λ was.
    was.simulation.end ≡ None → (e : Elaborated) (t : State Process) → IsAt e was t → AnswersCycle e (cycle e.model nothing_given t) (next_time t) (Ok c.in-Ok.step) new in
    subst Answers c.self.view_is (λ going e t at.
    goes_to e old new t at refl refl refl c.in-Ok.ensures.signals c.in-Ok.step c.in-Ok.ensures.end (c.in-Ok.ensures.step going e.model.shape at.run_of.design))

pub returns-in-Err-clause-step : goal.returns-in-Err-clause-step
returns-in-Err-clause-step c =
    let i = c.self.inside in
    let old : Running = record { paths = i.paths.items; scope = scope_at i.entity i.architecture; process_count = i.process_count; simulation = i.simulation } in
    let new : Running = record old { simulation = c.cycle.new.self } in
    let Answers : Running → Type 0 = λ was.
    was.simulation.end ≡ None → (e : Elaborated) (t : State Process) → IsAt e was t → AnswersCycle e (cycle e.model nothing_given t) (next_time t) (Err c.tell.result) new in
    subst Answers c.self.view_is (λ going e t at.
    ends_by e old new t at refl refl refl c.in-Err.ensures.signals c.in-Err.end c.tell.result c.in-Err.ensures.end c.tell.ensures (c.in-Err.ensures.step going e.model.shape at.run_of.design))
