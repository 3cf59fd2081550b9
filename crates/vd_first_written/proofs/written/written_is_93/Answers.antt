use Rattle.vd_first_written.proofs.WrittenIsText.{written_is_93}
use Rattle.vd_first_written.proofs.written.written_is_93.Goals as goal

pub returns : goal.returns
returns c = written_is_93
