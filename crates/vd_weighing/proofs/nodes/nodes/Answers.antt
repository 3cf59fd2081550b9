use Rattle.std.proofs.Common.{◌≡◌, [], sum_by, subst, sym, ap, ◌∙◌, arith}
use Rattle.std.proofs.lemmas.Grind.{common_steps}
use Rattle.vd_weighing.specs.Weights.{nodes as nodes_of}
use Rattle.vd_weighing.proofs.LimitLemmas.{IsCounted, counted_none, counted_all}
use Rattle.vd_weighing.proofs.NodeLemmas.{sum_by_push, nodes_more}
use Rattle.vd_weighing.proofs.nodes.nodes.Goals as goal

pub loop-last-init : goal.loop-last-init
loop-last-init c =
    let one = sum_by_push nodes_of c.push.new.self.items [] c.fork.result (grind (arith, common_steps)) in
    subst (λ n. IsCounted 0 n (nodes_of c.args.trees.now)) (ap nodes_of (sym c.fork.ensures) ∙ omega (arith, one)) (counted_none (nodes_of c.args.trees.now))

pub loop-last-preserved-in-Continue-branch-3 : goal.loop-last-preserved-in-Continue-branch-3
loop-last-preserved-in-Continue-branch-3 c =
    let first = c.in-Some-open.first in
    nodes_more c.loop-last.left.items c.pop.new.self.items c.push-in-Some-open-2.new.self.items c.in-Some.last first.parts first.next
    first.form first.text.now first.place c.loop-last.count (nodes_of c.args.trees.now) c.own_weight.result c.plus-count.result
    (grind (arith, common_steps)) (grind (arith, common_steps)) (grind (arith, common_steps)) c.own_weight.ensures c.plus-count.ensures c.loop-last.invariant

pub returns : goal.returns
returns c =
    let none : c.loop-last.left.items ≡ [] = grind (arith, common_steps) in
    counted_all c.loop-last.count (sum_by nodes_of c.loop-last.left.items) (nodes_of c.args.trees.now) c.loop-last.invariant (ap (sum_by nodes_of) none)
