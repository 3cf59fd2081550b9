use Rattle.vd_value_rules.specs.Lengths.{whole_name_shaped}
use Rattle.vd_known_lengths.proofs.measuring.name.Goals as goal

pub returns-clause-is : goal.returns-clause-is
returns-clause-is c = λ d k ss sees are. c.alone.ensures.is (whole_name_shaped ss) (c.in_ok-extent.ensures.is ss are)
