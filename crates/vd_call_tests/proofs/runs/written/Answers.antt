use Rattle.vd_first_lower.proofs.Alone.{fits_alone}
use Rattle.vd_call_tests.proofs.runs.written.Goals as goal

pub convert-requires-clause-columns : goal.convert-requires-clause-columns
convert-requires-clause-columns c = fits_alone c.in-Ok.file c.in-Ok.ensures
