use Rattle.vd_gram.proofs.UniqueLemmas.{one_answer}
use Rattle.vd_gram.proofs.AnswerLemmas.{some_answer}
use Rattle.vd_shapes.specs.Reading.{symbols_in}
use Rattle.vd_grammar19.specs.Grammar.{grammar}
use Rattle.vd_grammar19.proofs.Checked.{grammar_is_checked}
use Rattle.vd_grammar19.proofs.laws.one_reading.Goals as goal

pub returns : goal.returns
returns c = λ tokens. (one_answer grammar grammar_is_checked (symbols_in tokens) 200, some_answer grammar grammar_is_checked (symbols_in tokens) 200)
