use Rattle.std.proofs.Common.{◌≡◌, ◌+◌, subst, ap, sym, ◌∙◌, arith}
use Rattle.vd_forest.specs.Forest.{tree_count}
use Rattle.vd_weighing.proofs.LimitLemmas.{IsCounted, at_most_small, counted_none, counted_more, counted_all}
use Rattle.vd_weighing.proofs.nodes.tree_count.Goals as goal

pub loop-first-init : goal.loop-first-init
loop-first-init c =
    subst (λ f. IsCounted 0 (tree_count f) (tree_count c.args.trees.now)) (sym c.fork-left.ensures) (counted_none (tree_count c.args.trees.now))

pub loop-first-preserved : goal.loop-first-preserved
loop-first-preserved c =
    let rest = tree_count c.in-Some.first.next in
    let split : tree_count c.loop-first.left ≡ 1 + rest = ap tree_count c.in-Some.ensures ∙ omega arith in
    counted_more c.loop-first.count 1 rest (tree_count c.loop-first.left) (tree_count c.args.trees.now) 1 c.plus-count.result
    c.loop-first.invariant split (sym (at_most_small 1 (omega arith))) c.plus-count.ensures

pub returns : goal.returns
returns c =
    counted_all c.loop-first.count (tree_count c.loop-first.left) (tree_count c.args.trees.now) c.loop-first.invariant (ap tree_count c.in_default.ensures)
