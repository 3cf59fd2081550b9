use Rattle.std.proofs.Common.{◌≡◌, ◌≤◌, Some, length, take, ◌-◌}
use Rattle.vd_composites.specs.Nodes.{after}
use Rattle.vd_composites.proofs.nodes.front.Given as goal

abbrev pub invariant-loop-left : goal.invariant-loop-left
invariant-loop-left l = record {
  within : l.place ≤ length l.nodes;
  front : after l.fn.items (take l.place l.nodes) ≡ Some l.left;
}

abbrev pub decreases-loop-left : goal.decreases-loop-left
decreases-loop-left l = length l.nodes - l.place
