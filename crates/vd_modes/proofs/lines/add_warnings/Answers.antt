use Rattle.std.proofs.Common.{◌++◌, ap, ◌∙◌}
use Rattle.vd_modes.specs.Checks.{warning_line}
use Rattle.vd_modes.proofs.LineLemmas.{lines_more}
use Rattle.vd_modes.proofs.lines.add_warnings.Goals as goal

pub loop-warning-preserved : goal.loop-warning-preserved
loop-warning-preserved c =
    let w = c.warning-item.result in
    let file = c.args.file.now in
    c.in_ok-add_warning.ensures ∙ ap (λ v. c.loop-warning.text.items ++ warning_line file v) c.warning-item.is
    ∙ lines_more c.args.text.now.items file c.args.warnings.now c.loop-warning.warning-index w c.loop-warning-test.true c.loop-warning.text.items c.loop-warning.invariant
