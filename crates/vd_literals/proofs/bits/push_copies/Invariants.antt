use Rattle.std.proofs.Common.{◌≡◌, ◌≤◌, ◌++◌, replicate}
use Rattle.vd_literals.proofs.bits.push_copies.Given as goal

abbrev pub invariant-loop-left : goal.invariant-loop-left
invariant-loop-left l = record {
  pushed : l.buffer.items ++ replicate l.left l.b ≡ l.fn.buffer.items ++ replicate l.fn.count l.b;
  small : l.left ≤ 4;
}

abbrev pub decreases-loop-left : goal.decreases-loop-left
decreases-loop-left l = l.left
