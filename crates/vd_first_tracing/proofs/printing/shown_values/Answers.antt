use Rattle.std.proofs.Common.{◌+◌, ◌++◌, [], ◌∷◌, sym, ap, ◌∙◌, arith}
use Rattle.vd_simulation.specs.Simulations.{state_of}
use Rattle.vd_first_processes.specs.Resolved.{itself}
use Rattle.vd_first_tracing.specs.Printing.{values_of}
use Rattle.vd_first_tracing.proofs.PrintLemmas.{values_added}
use Rattle.vd_first_tracing.proofs.printing.shown_values.Goals as goal

pub loop-i-preserved : goal.loop-i-preserved
loop-i-preserved c =
    let f = (state_of itself c.args.run.now.simulation).view.shown in
    c.in_ok-push.ensures.items
    ∙ ap (λ vs. vs ++ c.shown.result ∷ []) c.loop-i.invariant
    ∙ ap (λ v. values_of f 0 c.loop-i.i ++ v ∷ []) c.shown.ensures
    ∙ sym (values_added f c.loop-i.i (c.loop-i.i + 1) (omega arith))
