use Rattle.std.proofs.Common.{◌++◌, ap, ◌∙◌}
use Rattle.vd_walks.proofs.VisitLemmas.{one_visited, one_fewer}
use Rattle.vd_walks.specs.Visits.{visited, all_visited}
use Rattle.vd_walks.proofs.visits.visits.Goals as goal

pub loop-next-preserved : goal.loop-next-preserved
loop-next-preserved g c =
    ap (λ x. x ++ all_visited c.open_next.new.waiting.items) c.in_ok-push-2.ensures.items
    ∙ one_visited c.loop-next.made.items c.loop-next.waiting.items c.pop.new.self.items c.open_next.new.waiting.items (visited c.args.from.now) c.in-Some.next c.in-Some.ensures.items c.in_ok-open_next.ensures.visited c.loop-next.invariant

pub loop-next-smaller : goal.loop-next-smaller
loop-next-smaller g c = one_fewer c.loop-next.waiting.items c.pop.new.self.items c.open_next.new.waiting.items c.in-Some.next c.in-Some.ensures.items c.in_ok-open_next.ensures.fewer
