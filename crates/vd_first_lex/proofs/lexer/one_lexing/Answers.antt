use Rattle.vd_first_lex.proofs.LexingLaws.{one_lexing}
use Rattle.vd_first_lex.proofs.lexer.one_lexing.Goals as goal

pub returns : goal.returns
returns c = one_lexing
