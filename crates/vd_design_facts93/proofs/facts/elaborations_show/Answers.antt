use Rattle.vd_design_facts93.proofs.Computed.{elaborations}
use Rattle.vd_design_facts93.proofs.facts.elaborations_show.Goals as goal

pub returns : goal.returns
returns c = elaborations
