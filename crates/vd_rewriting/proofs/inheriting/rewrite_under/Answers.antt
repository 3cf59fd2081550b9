use Rattle.std.proofs.Common.{◌≡◌, ◌<◌, ◌≤◌, ◌++◌, [], ◌∷◌, ap, ◌∙◌, subst, arith}
use Rattle.vd_forest.specs.Store.{at, Holds}
use Rattle.vd_forest.proofs.StoreLemmas.{extends_trans}
use Rattle.vd_rewriting.specs.Inheriting.{Rules, rewritten_under}
use Rattle.vd_rewriting.proofs.InheritingLemmas.{IsWaiting, IsStage, visited, popped, parts_done, made_done}
use Rattle.vd_rewriting.proofs.inheriting.rewrite_under.Goals as goal
use Rattle.vd_rewriting.proofs.inheriting.rewrite_under.Goals.{In-Some}
use Rattle.vd_rewriting.proofs.inheriting.rewrite_under.Given.{Over}

-- the node that is taken off
last : (g : Over) (c : In-Some g)
    → IsWaiting (g.P.Inheriting.rules c.args.by.now) c.stands-number.result.0.now c.loop-left.out c.in-Some.last
last g c =
    popped (g.P.Inheriting.rules c.args.by.now) c.stands-number.result.0.now c.loop-left.out c.loop-left.waiting.items c.pop.new.self.items
    c.in-Some.last c.loop-left.left c.loop-left.made c.loop-left.here
    (rewritten_under (g.P.Inheriting.rules c.args.by.now) c.args.state c.args.from.now) c.loop-left.invariant.hand c.in-Some.ensures.items

pub visit-visited-requires-in-Some-clause-number_in : goal.visit-visited-requires-in-Some-clause-number_in
visit-visited-requires-in-Some-clause-number_in g c = (last g c).within

pub visit-visited-requires-in-Some-clause-some : goal.visit-visited-requires-in-Some-clause-some
visit-visited-requires-in-Some-clause-some g c = (last g c).some

pub make-requires-clause-parts_in : goal.make-requires-clause-parts_in
make-requires-clause-parts_in g c =
    let rules = g.P.Inheriting.rules c.args.by.now in
    let stage = (last g (goal.at.make-requires-clause-parts_in g c).In-Some).stage_in in
    subst (IsStage rules c.stands-number.result.0.now c.loop-left.out) c.in-Next.is stage

pub loop-left-preserved-then-left-gt0-2 : goal.loop-left-preserved-then-left-gt0-2
loop-left-preserved-then-left-gt0-2 g c =
    let rules = g.P.Inheriting.rules c.args.by.now in
    let i = c.loop-left.invariant in
    let node = c.visit-visited.result.node in
    let some : 0 < c.loop-left.left = omega arith in
    let down_is = c.in_ok-here.ensures.is ∙ ap (λ (r : Rules _ _ _). r.down c.loop-left.here node.form node.text.now node.place node.parts) i.same_rules in
    record {
      left_in = omega arith;
      made_in = omega arith;
      extends = i.extends;
      same_rules = c.in_ok-here.ensures.same_rules ∙ i.same_rules;
      hand =
          visited rules c.stands-number.result.0.now c.loop-left.out c.loop-left.waiting.items c.push.new.self.items c.loop-left.left c.loop-left.made
          c.visit-visited.result.parts c.visit-visited.result.next c.loop-left.here c.in_ok-here.here node.form node.text.now node.place node.parts
          (rewritten_under rules c.args.state c.args.from.now) i.hand some i.left_in c.visit-visited.ensures.is c.visit-visited.ensures.parts down_is
          c.in_ok-push.ensures.items;
    }

pub loop-left-preserved-in-Parts : goal.loop-left-preserved-in-Parts
loop-left-preserved-in-Parts g c =
    let rules = g.P.Inheriting.rules c.args.by.now in
    let i = c.loop-left.invariant in
    let w = c.in-Some.last in
    let node = c.visit-visited-in-Some.result.node in
    let none : c.loop-left.left ≤ 0 = omega arith in
    let along_is = c.in_ok-here-in-Parts.ensures.is ∙ ap (λ (r : Rules _ _ _). r.along w.state node.form node.text.now node.place node.parts) i.same_rules in
    let taken =
    subst (λ stage. c.loop-left.waiting.items ≡ c.pop.new.self.items ++ record { number = w.number; state = w.state; stage = stage } ∷ []) c.in-Parts.is c.in-Some.ensures.items in
    record {
      left_in = omega (arith, (last g (goal.at.loop-left-preserved-in-Parts g c).In-Some).within);
      made_in = omega arith;
      extends = i.extends;
      same_rules = c.in_ok-here-in-Parts.ensures.same_rules ∙ i.same_rules;
      hand =
          parts_done rules c.stands-number.result.0.now c.loop-left.out c.loop-left.waiting.items c.pop.new.self.items c.push-in-Parts.new.self.items
          w.number c.loop-left.left c.loop-left.made c.visit-visited-in-Some.result.parts c.visit-visited-in-Some.result.next c.loop-left.here w.state
          c.in_ok-here-in-Parts.here node.form node.text.now node.place node.parts (rewritten_under rules c.args.state c.args.from.now) i.hand none i.made_in
          taken c.visit-visited-in-Some.ensures.is c.visit-visited-in-Some.ensures.parts along_is c.in_ok-push-in-Parts.ensures.items;
    }

pub loop-left-preserved-in-Next : goal.loop-left-preserved-in-Next
loop-left-preserved-in-Next g c =
    let rules = g.P.Inheriting.rules c.args.by.now in
    let i = c.loop-left.invariant in
    let w = c.in-Some.last in
    let node = c.visit-visited-in-Some.result.node in
    let none : c.loop-left.left ≤ 0 = omega arith in
    let made = c.in_ok-made-in-Next in
    let taken =
    subst (λ stage. c.loop-left.waiting.items ≡ c.pop.new.self.items ++ record { number = w.number; state = w.state; stage = stage } ∷ []) c.in-Next.is c.in-Some.ensures.items in
    let held =
    subst
    (λ (r : Rules _ _ _). Holds c.make.new.out made.made (r.pass w.state node.form node.text.now node.place node.parts (at c.loop-left.out c.in-Next.parts) (at c.loop-left.out c.loop-left.made)))
    i.same_rules made.ensures.holds in
    record {
      left_in = i.left_in;
      made_in = made.ensures.holds.within;
      extends = extends_trans _ _ _ i.extends made.ensures.extends;
      same_rules = made.ensures.same_rules ∙ i.same_rules;
      hand =
          made_done rules c.stands-number.result.0.now c.loop-left.out c.make.new.out c.loop-left.waiting.items c.pop.new.self.items w.number
          c.loop-left.left c.loop-left.made c.visit-visited-in-Some.result.parts c.visit-visited-in-Some.result.next c.in-Next.parts made.made
          c.loop-left.here w.state node.form node.text.now node.place node.parts (rewritten_under rules c.args.state c.args.from.now) i.hand none
          made.ensures.extends taken c.visit-visited-in-Some.ensures.is c.visit-visited-in-Some.ensures.parts held;
    }
