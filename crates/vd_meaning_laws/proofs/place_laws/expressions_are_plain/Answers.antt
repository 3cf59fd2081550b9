use Rattle.vd_meaning_laws.proofs.Settling.{pieces_are_settled, expressions_are_plain}
use Rattle.vd_meaning_laws.proofs.place_laws.expressions_are_plain.Goals as goal

pub returns-clause-pieces : goal.returns-clause-pieces
returns-clause-pieces c = pieces_are_settled

pub returns-clause-expressions : goal.returns-clause-expressions
returns-clause-expressions c = expressions_are_plain
