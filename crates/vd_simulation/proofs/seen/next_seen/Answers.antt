use Rattle.std.proofs.Common.{None, ap₂, ◌∙◌}
use Rattle.std.specs.Prelude.{slice_index_or}
use Rattle.vd_kernel.specs.Cycles.{before_change}
use Rattle.vd_kernel.specs.SignalValues.{value_at}
use Rattle.vd_simulation.specs.Turns.{view_of}
use Rattle.vd_simulation.proofs.Designs.{next_view_is}
use Rattle.vd_simulation.proofs.seen.next_seen.Goals as goal

pub returns-clause-view : goal.returns-clause-view
returns-clause-view c = λ m is.
    let net = c.args.net.now in
    next_view_is m net.signals is net.drivers (value_at c.in_ok-values.values.items) c.in_ok-values.ensures.values c.args.now (view_of c.args.old.now)
    (λ i. slice_index_or c.in_ok-before.before.items i None)
    (λ i.
    c.in_ok-before.ensures i
    ∙ ap₂ (λ old new. before_change (value_at old i) (value_at new i) (value_at old i) (value_at new i)) c.deref.ensures.value c.deref-2.ensures.value)
