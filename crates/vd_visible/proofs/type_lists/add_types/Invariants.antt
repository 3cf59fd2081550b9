use Rattle.std.proofs.Common.{◌≡◌, ◌≤◌, ◌-◌, length}
use Rattle.vd_visible.specs.TypeLists.{types_below}
use Rattle.vd_visible.proofs.type_lists.add_types.Given as goal

abbrev pub invariant-loop-types : goal.invariant-loop-types
invariant-loop-types l = record {
  within : l.next ≤ length l.regions.entered;
  so_far : l.types.items ≡ types_below l.regions l.next;
}

abbrev pub decreases-loop-types : goal.decreases-loop-types
decreases-loop-types l = length l.regions.entered - l.next
