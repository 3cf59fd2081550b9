use Rattle.vd_hierarchy_facts.proofs.Computed.{vectors}
use Rattle.vd_hierarchy_facts.proofs.facts.vector_ports_show.Goals as goal

pub returns : goal.returns
returns c = vectors
