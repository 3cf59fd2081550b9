use Rattle.std.proofs.Common.{◌≡◌, length}
use Rattle.vd_directives.specs.Pieces.{quoted}
use Rattle.vd_directives.proofs.PieceLemmas.{said_before}
use Rattle.vd_directives.proofs.pieces.read_quoted.Given as goal

abbrev pub invariant-loop-rest : goal.invariant-loop-rest
invariant-loop-rest l = quoted l.text ≡ said_before l.said.items (quoted l.rest)

abbrev pub decreases-loop-rest : goal.decreases-loop-rest
decreases-loop-rest l = length l.rest
