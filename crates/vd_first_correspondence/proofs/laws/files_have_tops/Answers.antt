use Rattle.vd_first_correspondence.proofs.FileLemmas.{files_have_tops}
use Rattle.vd_first_correspondence.proofs.laws.files_have_tops.Goals as goal

pub returns : goal.returns
returns c = files_have_tops
