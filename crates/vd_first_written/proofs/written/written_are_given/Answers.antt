use Rattle.vd_first_written.proofs.WrittenGiven.{written_are_given}
use Rattle.vd_first_written.proofs.written.written_are_given.Goals as goal

pub returns : goal.returns
returns c = written_are_given
