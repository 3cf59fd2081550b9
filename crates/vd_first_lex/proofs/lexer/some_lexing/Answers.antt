use Rattle.vd_first_lex.proofs.LexingExists.{some_lexing}
use Rattle.vd_first_lex.proofs.lexer.some_lexing.Goals as goal

pub returns : goal.returns
returns c = some_lexing
