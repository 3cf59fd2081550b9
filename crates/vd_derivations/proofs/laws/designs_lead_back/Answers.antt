use Rattle.vd_derivations.proofs.DesignLemmas.{leads_back}
use Rattle.vd_derivations.proofs.laws.designs_lead_back.Goals as goal

pub returns : goal.returns
returns c = leads_back
