use Rattle.std.proofs.Common.{refl}
use Rattle.std.specs.Fmt.{digits}
use Rattle.vd_first_tests.proofs.example.worked_runs.Goals as goal

pub returns-clause-quiet : goal.returns-clause-quiet
unfolding digits
returns-clause-quiet c = (refl, refl)

pub returns-clause-done : goal.returns-clause-done
unfolding digits
returns-clause-done c = (refl, refl)

pub returns-clause-driven : goal.returns-clause-driven
unfolding digits
returns-clause-driven c = (refl, refl)

pub returns-clause-two_sources : goal.returns-clause-two_sources
unfolding digits
returns-clause-two_sources c = (refl, refl)
