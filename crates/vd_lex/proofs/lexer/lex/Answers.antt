use Rattle.vd_lex.proofs.PossibleLemmas.{result_possible, result_ends}
use Rattle.vd_lex.proofs.lexer.lex.Goals as goal

pub returns-in-Ok-new-clause-possible : goal.returns-in-Ok-new-clause-possible
returns-in-Ok-new-clause-possible c = result_possible c.in-Ok.words.revision c.args.revision c.args.text.now c.lex_with.result c.in-Ok.ensures c.lex_with.ensures.read

pub returns-in-Ok-new-clause-ends : goal.returns-in-Ok-new-clause-ends
returns-in-Ok-new-clause-ends c = result_ends c.in-Ok.words.revision c.args.revision c.args.text.now c.lex_with.result c.lex_with.ensures.read
