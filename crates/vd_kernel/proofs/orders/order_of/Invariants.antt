use Rattle.std.proofs.Common.{◌≡◌, ℕ, ◌<◌, true, length}
use Rattle.vd_kernel.specs.Orders.{IsPlacing, is_placed}
use Rattle.vd_kernel.proofs.Placings.{IsDeep}
use Rattle.vd_kernel.proofs.orders.order_of.Given as goal

-- after so many walks all signals of a lesser depth are placed
abbrev pub invariant-loop-pass : goal.invariant-loop-pass
invariant-loop-pass l =
    record {
      placing : IsPlacing l.along l.signals l.placed.items l.order.items;
      deep : (depth : ℕ → ℕ) → IsDeep l.along l.signals depth → (i : ℕ) → i < length l.signals → depth i < l._pass → is_placed l.placed.items i ≡ true;
    }
