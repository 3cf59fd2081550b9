use Rattle.std.proofs.Common.{ap, ◌∙◌}
use Rattle.vd_first_elaboration.specs.Elaboration.{elaboration}
use Rattle.vd_first_runs.proofs.runs.elaborate19.Goals as goal

pub returns-clause-run : goal.returns-clause-run
returns-clause-run c = λ e is. c.in_ok-run.ensures.run e (ap (λ units. elaboration units c.args.top.now) c.units.ensures.units ∙ is)
