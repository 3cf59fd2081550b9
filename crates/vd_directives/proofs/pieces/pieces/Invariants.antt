use Rattle.std.proofs.Common.{◌≡◌, ◌-◌, length}
use Rattle.vd_directives.specs.Pieces.{pieces_of, pieces_within}
use Rattle.vd_directives.proofs.PieceLemmas.{found_before}
use Rattle.vd_directives.proofs.pieces.pieces.Given as goal

abbrev pub invariant-loop-taken : goal.invariant-loop-taken
invariant-loop-taken l = pieces_of l.text ≡ found_before l.found.items (pieces_within (length l.text - l.taken) l.rest)
