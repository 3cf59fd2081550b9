use Rattle.std.proofs.Common.{◌≡◌, drop, nat_le}
use Rattle.std.specs.List.{filter}
use Rattle.vd_kernel.specs.Drivers.{last_value}
use Rattle.vd_kernel.proofs.projections.due_value.Given as goal

abbrev pub invariant-loop-t : goal.invariant-loop-t
invariant-loop-t l =
    last_value l.value (filter (λ t. nat_le t.time l.now) (drop l.t-index l.old))
    ≡ last_value l.fn.current (filter (λ t. nat_le t.time l.now) l.old)
