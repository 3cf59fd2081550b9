use Rattle.vd_design_facts.proofs.Computed.{processes}
use Rattle.vd_design_facts.proofs.facts.processes_show.Goals as goal

pub returns : goal.returns
returns c = processes
