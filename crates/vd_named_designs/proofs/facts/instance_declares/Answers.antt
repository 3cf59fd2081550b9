use Rattle.vd_named_designs.proofs.Computed.{instance_declares}
use Rattle.vd_named_designs.proofs.facts.instance_declares.Goals as goal

pub returns : goal.returns
returns c = instance_declares
