use Rattle.std.proofs.Common.{◌≡◌, ◌≤◌, ◌++◌}
use Rattle.vd_literals.specs.Bits.{binary}
use Rattle.vd_literals.proofs.bits.push_binary.Given as goal

abbrev pub invariant-loop-left : goal.invariant-loop-left
invariant-loop-left l = record {
  pushed : l.buffer.items ++ binary l.left l.value ≡ l.fn.buffer.items ++ binary l.fn.width l.value;
  small : l.left ≤ 4;
}

abbrev pub decreases-loop-left : goal.decreases-loop-left
decreases-loop-left l = l.left
