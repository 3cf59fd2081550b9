use Rattle.vd_meaning_laws.proofs.Behind.{kept_traces}
use Rattle.vd_meaning_laws.proofs.laws_of_elaboration.declarations_behind_keep_traces.Goals as goal

pub returns : goal.returns
returns c = kept_traces
