use Rattle.std.proofs.Common.{◌≡◌, ◌≤◌, ℕ, List, [], false, None, drop, length}
use Rattle.std.specs.Option.{unwrap_or}
use Rattle.std.specs.Prelude.{nat_eq}
use Rattle.std.specs.HashMap.{get}
use Rattle.vd_name_actuals.specs.StandIns.{stand_in}
use Rattle.vd_name_actuals.proofs.stand_ins.set_actuals.Given as goal

abbrev pub invariant-loop-left : goal.invariant-loop-left
invariant-loop-left l = record {
  within : l.left ≤ length l.actuals;
  so_far : (generics : List ℕ)
      → ((k : ℕ) → unwrap_or (get nat_eq l.fn.table k) (record { is_generic = false; actual = None }) ≡ stand_in (record { generics = generics; actuals = [] }) k)
      → (k : ℕ) → unwrap_or (get nat_eq l.table k) (record { is_generic = false; actual = None }) ≡ stand_in (record { generics = generics; actuals = drop l.left l.actuals }) k;
}

abbrev pub decreases-loop-left : goal.decreases-loop-left
decreases-loop-left l = l.left
