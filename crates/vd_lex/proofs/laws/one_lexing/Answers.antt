use Rattle.vd_lex.proofs.LexingLaws.{one_lexing}
use Rattle.vd_lex.proofs.laws.one_lexing.Goals as goal

pub returns : goal.returns
returns c = one_lexing
