use Rattle.vd_hierarchy_facts.proofs.Computed.{elaborations}
use Rattle.vd_hierarchy_facts.proofs.facts.elaborations_show.Goals as goal

pub returns : goal.returns
returns c = elaborations
