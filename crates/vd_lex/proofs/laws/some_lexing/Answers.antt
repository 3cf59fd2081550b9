use Rattle.vd_lex.proofs.LexingLaws.{some_lexing}
use Rattle.vd_lex.proofs.laws.some_lexing.Goals as goal

pub returns : goal.returns
returns c = some_lexing
