use Rattle.std.proofs.lemmas.Result.{on_ok_weaker}
use Rattle.vd_instance_rules.proofs.SeenLemmas.{holds_no_port, holds_port}
use Rattle.vd_instance_rules.specs.Instances.{ports_for}
use Rattle.vd_instance_rules.proofs.associations.associate.Goals as goal

pub returns-in-Some : goal.returns-in-Some
returns-in-Some c = λ as' a holds formal.
    on_ok_weaker c.add.result (holds_port c.add.new.self as' a c.args.formal c.in-Some.port c.port_of.result formal c.port_of.ensures c.in-Some.is)
    (c.add.ensures (ports_for as') holds)

pub returns-in-None : goal.returns-in-None
returns-in-None c = λ as' a holds formal.
    holds_no_port c.args.seen.now as' a c.args.formal c.port_of.result formal c.port_of.ensures c.in-None.is holds
