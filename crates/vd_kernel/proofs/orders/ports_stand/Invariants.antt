use Rattle.std.proofs.Common.{◌≡◌, drop}
use Rattle.std.specs.List.{list_all}
use Rattle.vd_kernel.specs.Orders.{is_placed, ports_of}
use Rattle.vd_kernel.proofs.orders.ports_stand.Given as goal

-- whether the ports stand is up to those that are left
abbrev pub invariant-loop-source : goal.invariant-loop-source
invariant-loop-source l =
    list_all (is_placed l.placed) (ports_of (drop l.source-index l.sources)) ≡ list_all (is_placed l.placed) (ports_of l.sources)
