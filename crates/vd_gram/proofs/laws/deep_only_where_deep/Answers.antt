use Rattle.vd_gram.proofs.FrontLemmas.{deep_there}
use Rattle.vd_gram.proofs.laws.deep_only_where_deep.Goals as goal

pub returns : goal.returns
returns c = deep_there
