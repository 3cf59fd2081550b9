use Rattle.std.proofs.Common.{◌+◌, ◌≤◌, length}
use Rattle.vd_directives.proofs.SelectLemmas.{IsSelecting}
use Rattle.vd_directives.proofs.select.answer.Given as goal

abbrev pub invariant-loop-rest : goal.invariant-loop-rest
invariant-loop-rest l = record {
  selecting : IsSelecting l.tool l.file l.bytes l.rest l.number l.selecting.groups l.selecting.lines.items l.selecting.warnings.items;
  numbers : l.number + length l.rest ≤ length l.bytes;
}

abbrev pub decreases-loop-rest : goal.decreases-loop-rest
decreases-loop-rest l = length l.rest
