use Rattle.std.proofs.Common.{◌≡◌, ◌≤◌, [], ◌∷◌, ◌++◌, length, arith}
use Rattle.std.proofs.lemmas.Grind.{common_steps}
use Rattle.vd_forest.specs.Forest.{more}
use Rattle.vd_forest.specs.Store.{at}
use Rattle.vd_walks.specs.Least.{least}
use Rattle.vd_walks.proofs.LeastLemmas.{last_within, left_opened}
use Rattle.vd_walks.proofs.least.find_least.Goals as goal

pub loop-last-preserved-in-Continue-branch-6 : goal.loop-last-preserved-in-Continue-branch-6
loop-last-preserved-in-Continue-branch-6 g c =
    let judge = g.T.Judging.judge c.args.by.now in
    let fs = c.stands-number.result.0.now in
    let head = c.node-head.result in
    let popped : c.loop-last.left.items ≡ c.pop.new.self.items ++ c.in-Some.last ∷ [] = grind (arith, common_steps) in
    let opened : at fs c.in-Some.last.number ≡ more head.form head.text.now head.place (at fs head.parts) (at fs head.next) = c.node-head.ensures.is in
    let within : c.in-Some.last.number ≤ length fs = last_within judge fs c.loop-last.left.items c.pop.new.self.items c.in-Some.last c.loop-last.found (least judge c.args.state c.args.from.now) c.loop-last.invariant popped in
    let parts_in : head.parts ≤ length fs = omega arith in
    let next_in : head.next ≤ length fs = omega arith in
    let pushed : c.push-then-last-gt0-2.new.self.items ≡ (c.pop.new.self.items ++ record { number = head.next; state = c.in_ok-along.along } ∷ []) ++ record { number = head.parts; state = c.in_ok-down.down } ∷ [] = grind (arith, common_steps) in
    left_opened judge fs c.loop-last.left.items c.pop.new.self.items c.push-then-last-gt0-2.new.self.items c.in-Some.last c.loop-last.found c.in_ok-here.here c.lesser-found.result
    (least judge c.args.state c.args.from.now) head.form head.text.now head.place c.cursor.result head.parts head.next c.in_ok-down.down c.in_ok-along.along
    c.loop-last.invariant popped opened c.cursor.ensures parts_in next_in c.in_ok-here.ensures c.lesser-found.ensures c.in_ok-down.ensures c.in_ok-along.ensures pushed
