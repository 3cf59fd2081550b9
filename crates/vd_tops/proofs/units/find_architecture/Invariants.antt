use Rattle.std.proofs.Common.{◌≡◌, ◌≤◌, ◌+◌, length, None}
use Rattle.std.specs.Option.{option_copied}
use Rattle.vd_forest.specs.Store.{at}
use Rattle.vd_tops.specs.Tops.{last_passing, is_architecture}
use Rattle.vd_tops.proofs.units.find_architecture.Given as goal

abbrev pub invariant-loop-left : goal.invariant-loop-left
invariant-loop-left l = record {
  within : l.left ≤ length l.store;
  counted : l.count + l.left ≤ l.number;
  same : last_passing (is_architecture (record { entity = l.entity; architecture = option_copied l.architecture })) l.found l.count (at l.store l.left) ≡ last_passing (is_architecture (record { entity = l.entity; architecture = option_copied l.architecture })) None 0 l.units;
}

abbrev pub decreases-loop-left : goal.decreases-loop-left
decreases-loop-left l = l.left
