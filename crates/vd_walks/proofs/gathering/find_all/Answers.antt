use Rattle.std.proofs.Common.{◌≡◌, ◌≤◌, [], ◌∷◌, ◌++◌, length, arith}
use Rattle.std.proofs.lemmas.Grind.{common_steps}
use Rattle.vd_forest.specs.Forest.{more}
use Rattle.vd_forest.specs.Store.{at}
use Rattle.vd_walks.specs.Gathering.{all_found}
use Rattle.vd_walks.proofs.GatheringLemmas.{last_within, left_opened}
use Rattle.vd_walks.proofs.gathering.find_all.Goals as goal

pub loop-last-preserved-in-Continue-branch-7 : goal.loop-last-preserved-in-Continue-branch-7
loop-last-preserved-in-Continue-branch-7 g c =
    let finder = g.T.Finding.finder c.args.by.now in
    let fs = c.stands-number.result.0.now in
    let head = c.node-head.result in
    let popped : c.loop-last.left.items ≡ c.pop.new.self.items ++ c.in-Some.last ∷ [] = grind (arith, common_steps) in
    let opened : at fs c.in-Some.last.number ≡ more head.form head.text.now head.place (at fs head.parts) (at fs head.next) = c.node-head.ensures.is in
    let within : c.in-Some.last.number ≤ length fs = last_within finder fs c.loop-last.left.items c.pop.new.self.items c.in-Some.last c.loop-last.found.items (all_found finder c.args.state c.args.from.now) c.loop-last.invariant popped in
    let parts_in : head.parts ≤ length fs = omega arith in
    let next_in : head.next ≤ length fs = omega arith in
    let pushed : c.push-then-last-gt0-2.new.self.items ≡ (c.pop.new.self.items ++ record { number = head.next; state = c.in_ok-along.along } ∷ []) ++ record { number = head.parts; state = c.in_ok-down.down } ∷ [] = grind (arith, common_steps) in
    left_opened finder fs c.loop-last.left.items c.pop.new.self.items c.push-then-last-gt0-2.new.self.items c.in-Some.last c.loop-last.found.items c.add.new.found.items (all_found finder c.args.state c.args.from.now) c.in_ok-here.here
    head.form head.text.now head.place c.cursor.result head.parts head.next c.in_ok-down.down c.in_ok-along.along
    c.loop-last.invariant popped opened c.cursor.ensures parts_in next_in c.in_ok-here.ensures c.in_ok-add.ensures c.in_ok-down.ensures c.in_ok-along.ensures pushed
