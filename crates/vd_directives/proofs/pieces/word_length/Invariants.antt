use Rattle.std.proofs.Common.{◌≡◌, ◌+◌, length}
use Rattle.vd_directives.specs.Pieces.{run_length, is_word_byte}
use Rattle.vd_directives.proofs.pieces.word_length.Given as goal

abbrev pub invariant-loop-rest : goal.invariant-loop-rest
invariant-loop-rest l = record {
  so_far : run_length is_word_byte l.text ≡ l.n + run_length is_word_byte l.rest;
  within : l.n + length l.rest ≡ length l.text;
}

abbrev pub decreases-loop-rest : goal.decreases-loop-rest
decreases-loop-rest l = length l.rest
