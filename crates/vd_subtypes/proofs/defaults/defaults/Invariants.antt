use Rattle.std.proofs.Common.{◌≡◌, ◌≤◌, length, drop}
use Rattle.vd_composites.specs.Subtypes.{defaults_of}
use Rattle.vd_subtypes.specs.Nodes.{read}
use Rattle.vd_subtypes.specs.Stacks.{from_top}
use Rattle.vd_subtypes.proofs.defaults.defaults.Given as goal

abbrev pub invariant-loop-left : goal.invariant-loop-left
invariant-loop-left l = record {
  within : l.left ≤ length l.nodes;
  same : from_top l.stack.items ≡ defaults_of (read (drop l.left l.nodes));
}

abbrev pub decreases-loop-left : goal.decreases-loop-left
decreases-loop-left l = l.left
