use Rattle.vd_value_rules.proofs.Texts.{texts}
use Rattle.vd_value_rules.proofs.laws.texts_are_given.Goals as goal

pub returns : goal.returns
returns c = texts
