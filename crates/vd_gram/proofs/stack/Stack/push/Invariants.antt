use Rattle.std.proofs.Common.{◌≡◌, ◌≤◌, ◌++◌, length, drop, reverse}
use Rattle.vd_gram.specs.Pending.{at_depth}
use Rattle.vd_gram.proofs.stack.Stack.push.Given as goal

abbrev pub invariant-loop-left : goal.invariant-loop-left
invariant-loop-left l = record {
  within : l.left ≤ length l.symbols;
  so_far : reverse l.self-inside.last_first.items ≡ at_depth l.depth (drop l.left l.symbols) ++ l.fn.self;
}

abbrev pub decreases-loop-left : goal.decreases-loop-left
decreases-loop-left l = l.left
