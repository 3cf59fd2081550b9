use Rattle.vd_gram.proofs.UniqueLemmas.{one_answer}
use Rattle.vd_gram.proofs.AnswerLemmas.{some_answer}
use Rattle.vd_gram.proofs.laws.one_answer.Goals as goal

pub returns-clause-no_two : goal.returns-clause-no_two
returns-clause-no_two c = one_answer

pub returns-clause-some : goal.returns-clause-some
returns-clause-some c = some_answer
