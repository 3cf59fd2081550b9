use Rattle.std.proofs.Common.{[], arith, ◌∙◌}
use Rattle.vd_first_runs.proofs.DesignLemmas.{ok_implies}
use Rattle.vd_first_runs.proofs.RunLemmas.{last_report}
use Rattle.vd_first_runs.proofs.run.last_text.Goals as goal

pub returns : goal.returns
returns c =
    let reports = c.args.reports.now in
    ok_implies _ _ c.from_slice-2.result c.from_slice-2.ensures (λ text is. is ∙ c.as_slice.ensures ∙ last_report [] reports c.index-reports-n.result (omega arith))
