use Rattle.vd_first_lower.proofs.Alone.{fits_alone}
use Rattle.vd_call_tests.proofs.runs.traced93.Goals as goal

pub run93-requires-clause-columns : goal.run93-requires-clause-columns
run93-requires-clause-columns c = fits_alone c.in-Ok.file c.in-Ok.ensures
