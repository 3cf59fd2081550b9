use Rattle.vd_design_facts93.proofs.Computed.{conversions}
use Rattle.vd_design_facts93.proofs.facts.conversions_show.Goals as goal

pub returns : goal.returns
returns c = conversions
