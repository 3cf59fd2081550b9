use Rattle.std.proofs.Common.{◌≡◌, ◌+◌, length}
use Rattle.vd_directives.specs.Pieces.{run_length}
use Rattle.vd_directives.specs.Directives.{is_blank}
use Rattle.vd_directives.proofs.kinds.blank_length.Given as goal

abbrev pub invariant-loop-rest : goal.invariant-loop-rest
invariant-loop-rest l = record {
  so_far : run_length is_blank l.line ≡ l.n + run_length is_blank l.rest;
  within : l.n + length l.rest ≡ length l.line;
}

abbrev pub decreases-loop-rest : goal.decreases-loop-rest
decreases-loop-rest l = length l.rest
