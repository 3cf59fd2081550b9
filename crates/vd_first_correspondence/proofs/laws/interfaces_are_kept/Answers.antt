use Rattle.vd_first_correspondence.proofs.FileLemmas.{interface_kept}
use Rattle.vd_first_correspondence.proofs.laws.interfaces_are_kept.Goals as goal

pub returns : goal.returns
returns c = interface_kept
