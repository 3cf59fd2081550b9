use Rattle.vd_overloads.proofs.ReachLemmas.{goals_are_met}
use Rattle.vd_overloads.proofs.goal_laws.goals_are_met_at_ends.Goals as goal

pub returns : goal.returns
returns c = goals_are_met
