-- Files have one answer, since texts have one lexing and token lists one reading.
use Rattle.vd_gram.proofs.AnswerLemmas as parses
use Rattle.vd_gram.proofs.UniqueLemmas as parse
use Rattle.vd_grammar19.proofs.Checked.{grammar_is_checked}
use Rattle.vd_grammar19.specs.Grammar.{grammar}
use Rattle.vd_lex.proofs.LexingLaws.{one_lexing, some_lexing}
use Rattle.vd_shapes.specs.Reading.{symbols_in}
use Rattle.vd_design_files.specs.Laws.{HasOneAnswer, HasSomeAnswer}
use Rattle.vd_design_files.proofs.OneAnswer.{answer_one}
use Rattle.vd_design_files.proofs.SomeAnswer.{answer_some}

pub one_answer : HasOneAnswer
one_answer = answer_one one_lexing (λ tokens. parse.one_answer grammar grammar_is_checked (symbols_in tokens) 200)

pub some_answer : HasSomeAnswer
some_answer = answer_some (λ tokens. parses.some_answer grammar grammar_is_checked (symbols_in tokens) 200) some_lexing
