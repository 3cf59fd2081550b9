use Rattle.std.proofs.Common.{refl}
use Rattle.vd_first_tests.proofs.example.worked_example.Goals as goal

pub returns-clause-design : goal.returns-clause-design
returns-clause-design c = refl

pub returns-clause-map : goal.returns-clause-map
returns-clause-map c = refl
