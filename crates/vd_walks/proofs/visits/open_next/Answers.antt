use Rattle.vd_walks.proofs.VisitLemmas.{opened_visited, opened_fewer}
use Rattle.vd_walks.proofs.visits.open_next.Goals as goal

pub returns-clause-visited : goal.returns-clause-visited
returns-clause-visited g c = opened_visited c.args.next.now c.in-Some.first.parts c.in-Some.first.next c.in-Some.first.form c.in-Some.first.text.now c.in-Some.first.place c.args.waiting.now.items c.push.new.self.items c.push-2.new.self.items c.in-Some.ensures c.in_ok-push.ensures.items c.in_ok-push-2.ensures.items

pub returns-clause-fewer : goal.returns-clause-fewer
returns-clause-fewer g c = opened_fewer c.args.next.now c.in-Some.first.parts c.in-Some.first.next c.in-Some.first.form c.in-Some.first.text.now c.in-Some.first.place c.args.waiting.now.items c.push.new.self.items c.push-2.new.self.items c.in-Some.ensures c.in_ok-push.ensures.items c.in_ok-push-2.ensures.items
