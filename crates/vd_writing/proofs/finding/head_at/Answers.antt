use Rattle.std.proofs.Common.{◌∙◌, sym}
use Rattle.vd_writing.proofs.HeadLemmas.{head_skipped, head_found}
use Rattle.vd_writing.proofs.finding.head_at.Goals as goal

pub loop-at-preserved : goal.loop-at-preserved
loop-at-preserved c =
    sym (head_skipped c.args.table.now c.loop-at.at _ c.loop-at-test.true c.args.state c.args.form (sym c.is_head_for.ensures ∙ c.if-is_head_for.false)) ∙ c.loop-at.invariant

pub returns-then-is_head_for-clause-row : goal.returns-then-is_head_for-clause-row
returns-then-is_head_for-clause-row c =
    sym (head_found c.args.table.now c.loop-at.at _ c.loop-at-test.true c.args.state c.args.form (sym c.is_head_for.ensures ∙ c.if-is_head_for.true)) ∙ c.loop-at.invariant
