use Rattle.std.proofs.Common.{◌≡◌, ◌≤◌, ℕ, map, drop, length}
use Rattle.std.specs.Prelude.{nat_eq}
use Rattle.std.specs.HashMap.{get}
use Rattle.vd_name_maps.specs.Seen.{seen_element}
use Rattle.vd_name_maps.specs.Values.{Tells}
use Rattle.vd_name_maps.proofs.elements.values_of.Given as goal

abbrev pub invariant-loop-left : goal.invariant-loop-left
invariant-loop-left l = record {
  within : l.left ≤ length l.elements;
  tells : (g : ℕ) → Tells (map seen_element l.elements) (map seen_element (drop l.left l.elements)) g (get nat_eq l.table g);
}

abbrev pub decreases-loop-left : goal.decreases-loop-left
decreases-loop-left l = l.left
