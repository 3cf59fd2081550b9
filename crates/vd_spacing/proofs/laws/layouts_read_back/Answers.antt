use Rattle.vd_spacing.proofs.ReadLemmas.{layouts_read_back}
use Rattle.vd_spacing.proofs.laws.layouts_read_back.Goals as goal

pub returns : goal.returns
returns c = layouts_read_back
