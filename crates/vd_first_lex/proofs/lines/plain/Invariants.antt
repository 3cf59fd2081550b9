use Rattle.std.proofs.Common.{◌≡◌, ◌++◌, ◌+◌, ◌≤◌, length}
use Rattle.vd_first_lex.specs.Lexings.{lines_of, numbered}
use Rattle.vd_first_lex.proofs.lines.plain.Given as goal

abbrev pub invariant-loop-rest : goal.invariant-loop-rest
invariant-loop-rest l = record {
  lines : numbered 1 (lines_of l.fn.bytes) ≡ l.lines.items ++ numbered l.number (lines_of l.rest);
  numbers : l.number + length l.rest ≤ length l.fn.bytes + 1;
}

abbrev pub decreases-loop-rest : goal.decreases-loop-rest
decreases-loop-rest l = length l.rest
