use Rattle.std.proofs.Common.{None, ap}
use Rattle.std.specs.Prelude.{slice_index_or}
use Rattle.vd_kernel.specs.SignalValues.{value_at}
use Rattle.vd_simulation.proofs.Designs.{first_view_is}
use Rattle.vd_simulation.proofs.seen.first_seen.Goals as goal

pub returns-clause-view : goal.returns-clause-view
returns-clause-view c = λ m is.
    let net = c.args.net.now in
    first_view_is m net.signals is net.drivers (value_at c.in_ok-values.values.items) c.in_ok-values.ensures.values
    (λ i. slice_index_or c.new.result.items i None)
    (λ i. ap (λ xs. slice_index_or xs i None) c.new.ensures.items)
