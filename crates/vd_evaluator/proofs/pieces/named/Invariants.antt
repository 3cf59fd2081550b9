use Rattle.std.proofs.Common.{◌≡◌, drop}
use Rattle.vd_evaluator.specs.Pieces.{first_word, with_pieces}
use Rattle.vd_evaluator.proofs.pieces.named.Given as goal

abbrev pub invariant-loop-piece : goal.invariant-loop-piece
invariant-loop-piece l = with_pieces l.name (drop l.piece-index l.pieces) ≡ with_pieces (first_word l.first) l.pieces
