use Rattle.std.proofs.Common.{◌≡◌, ◌≤◌, ◌+◌, length, None}
use Rattle.vd_forest.specs.Store.{at}
use Rattle.vd_tops.specs.Tops.{last_passing, is_entity}
use Rattle.vd_tops.proofs.units.find_entity.Given as goal

abbrev pub invariant-loop-left : goal.invariant-loop-left
invariant-loop-left l = record {
  within : l.left ≤ length l.store;
  counted : l.count + l.left ≤ l.number;
  same : last_passing (is_entity l.entity) l.found l.count (at l.store l.left) ≡ last_passing (is_entity l.entity) None 0 l.units;
}

abbrev pub decreases-loop-left : goal.decreases-loop-left
decreases-loop-left l = l.left
