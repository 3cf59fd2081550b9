use Rattle.vd_gram.proofs.UniqueLemmas.{shallow_depth}
use Rattle.vd_gram.proofs.laws.shallow_answer.Goals as goal

pub returns : goal.returns
returns c = shallow_depth
