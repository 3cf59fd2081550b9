use Rattle.vd_gram.proofs.SameLemmas.{say_the_same}
use Rattle.vd_gram.proofs.laws.same_grammar.Goals as goal

pub returns : goal.returns
returns c = say_the_same
