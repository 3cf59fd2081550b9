use Rattle.std.proofs.Common.{◌≡◌, ◌++◌, ◌+◌, ◌≤◌, length}
use Rattle.vd_directives.specs.Lines.{lines_of, numbered}
use Rattle.vd_directives.proofs.plain.plain.Given as goal

abbrev pub invariant-loop-rest : goal.invariant-loop-rest
invariant-loop-rest l = record {
  lines : numbered 1 (lines_of l.fn.bytes) ≡ l.lines.items ++ numbered (l.number + 1) (lines_of l.rest);
  numbers : l.number + length l.rest ≤ length l.fn.bytes;
}

abbrev pub decreases-loop-rest : goal.decreases-loop-rest
decreases-loop-rest l = length l.rest
