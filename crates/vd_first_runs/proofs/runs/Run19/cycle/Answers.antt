use Rattle.std.proofs.Common.{◌≡◌, Some, subst}
use Rattle.vd_simulation.specs.declared.ends.SimulationEnd.{SimulationEnd}
use Rattle.vd_first_runs.specs.Runs.{Running, IsEndAnswer}
use Rattle.vd_first_runs.proofs.runs.Run19.cycle.Goals as goal

pub returns-clause-ended : goal.returns-clause-ended
returns-clause-ended c =
    let Ended : Running → Type 0 = λ was. (end : SimulationEnd) → was.simulation.end ≡ Some end → IsEndAnswer was end c.cycle.result × (c.cycle.new.self ≡ was) in
    subst Ended c.self.view_is c.cycle.ensures.ended
