use Rattle.std.proofs.Common.{◌≡◌, false}
use Rattle.vd_kernel.specs.Orders.{IsPlacing, IsWalked}
use Rattle.vd_kernel.proofs.orders.place_ready.Given as goal

abbrev pub invariant-loop-i : goal.invariant-loop-i
invariant-loop-i l =
    record {
      placing : IsPlacing l.along l.signals l.placed l.order.items;
      walked : IsWalked l.along l.signals l.fn.placed l.placed l.i;
      quiet : l.grew ≡ false → l.placed ≡ l.fn.placed;
    }
