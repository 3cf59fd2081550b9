use Rattle.vd_kernel.proofs.Equations.{meet_equations, no_others}
use Rattle.vd_kernel.proofs.laws.values_solve_their_equations.Goals as goal

pub returns-clause-solved : goal.returns-clause-solved
returns-clause-solved _ = meet_equations

pub returns-clause-only : goal.returns-clause-only
returns-clause-only _ = no_others
