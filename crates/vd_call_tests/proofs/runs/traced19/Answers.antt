use Rattle.vd_first_lower.proofs.Alone.{fits_alone}
use Rattle.vd_call_tests.proofs.runs.traced19.Goals as goal

pub run19-requires-clause-columns : goal.run19-requires-clause-columns
run19-requires-clause-columns c = fits_alone c.in-Ok.file c.in-Ok.ensures
