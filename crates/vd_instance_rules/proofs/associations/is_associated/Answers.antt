use Rattle.vd_instance_rules.proofs.SeenLemmas.{none_seen, some_seen}
use Rattle.vd_instance_rules.specs.Instances.{ports_for}
use Rattle.vd_instance_rules.proofs.associations.is_associated.Goals as goal

pub returns-in-Some : goal.returns-in-Some
returns-in-Some c = λ as' holds. some_seen as' c.args.port c.in-Some.port c.has.result c.in-Some.is (c.has.ensures (ports_for as') holds)

pub returns-in-None : goal.returns-in-None
returns-in-None c = λ as' holds. none_seen as' c.args.port c.in-None.is
