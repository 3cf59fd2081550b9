use Rattle.std.proofs.Common.{◌≡◌, drop, nat_le}
use Rattle.std.specs.List.{list_any}
use Rattle.vd_kernel.proofs.walks.any_is_due.Given as goal

abbrev pub invariant-loop-driver : goal.invariant-loop-driver
invariant-loop-driver l =
    list_any (λ d. list_any (λ t. nat_le t.time l.time) d.waiting) (drop l.driver-index l.drivers)
    ≡ list_any (λ d. list_any (λ t. nat_le t.time l.time) d.waiting) l.drivers
