use Rattle.vd_command.proofs.EqualRuns.{runs_are_equal}
use Rattle.vd_command.proofs.laws.runs_are_equal.Goals as goal

pub returns : goal.returns
returns c = runs_are_equal
