use Rattle.std.proofs.Common.{◌-◌, min, length, ap, ◌∙◌, arith}
use Rattle.vd_forest.specs.Forest.{tree_count}
use Rattle.vd_first_elaboration.specs.Ports.{declared_ports}
use Rattle.vd_first_processes.proofs.ErasedLemmas.{ports_long}
use Rattle.vd_first_runs.proofs.limits.count_ports.Goals as goal

pub loop-first-preserved : goal.loop-first-preserved
loop-first-preserved c =
    let first = c.in-Some.first in
    let long = ap (λ f. length (declared_ports f)) c.in-Some.ensures ∙ ports_long first.form first.text.now first.place first.parts first.next in
    let n = c.count_trees-count.ensures ∙ ap (λ f. min (c.args.most - c.loop-first.count) (tree_count f)) c.parts.ensures in
    let so_far = c.loop-first.invariant in
    record { below = omega (arith, n); same = omega (arith, n, long, so_far.same, so_far.below) }
