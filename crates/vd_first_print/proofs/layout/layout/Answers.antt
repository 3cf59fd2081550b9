use Rattle.std.proofs.Common.{◌++◌, subst, ap, ◌∙◌}
use Rattle.vd_first_print.proofs.LayoutLemmas.{IsLaid, steps}
use Rattle.vd_first_print.specs.Layout.{layout_of}
use Rattle.vd_first_print.proofs.layout.layout.Goals as goal

pub loop-token-preserved : goal.loop-token-preserved
loop-token-preserved c =
    steps c.loop-token.out.items (layout_of c.args.tokens.now) c.loop-token.counts c.in_ok-counts.counts c.loop-token.last.now c.in-Some-split_first.token.now c.in-Some-split_first.after.now c.ends_line-ends.result c.level-level.result c.push_gap.new.out.items _
    (subst (IsLaid c.loop-token.out.items (layout_of c.args.tokens.now) c.loop-token.counts c.loop-token.last.now) c.in-Some-split_first.ensures.cases.0 c.loop-token.invariant)
    c.ends_line-ends.ensures c.in_ok-counts.ensures c.level-level.ensures c.in_ok-push_gap.ensures
    (c.in_ok-extend_from_slice-2.ensures.items ∙ ap (λ x. c.push_gap.new.out.items ++ x) c.spelling-in-Some-split_first.ensures)
