use Rattle.std.proofs.Common.{◌-◌, ◌∷◌, arith, reverse, ◌∙◌}
use Rattle.vd_walks.proofs.StackLemmas.{at_end, first_popped, forests_known, one_step, sound_turned}
use Rattle.vd_walks.proofs.stacking.from_leaves.Goals as goal

pub loop-left-preserved : goal.loop-left-preserved
loop-left-preserved g c =
    let i = c.loop-left.invariant in
    let begun = g.T.FromLeaves.comes_to c.args.by.now in
    let now = g.T.FromLeaves.comes_to c.loop-left.by in
    record {
      within = omega (arith, i.within);
      forests = i.forests;
      are = one_step begun c.args.from.now c.in_ok-forests.forests.items c.loop-left.stack.items c.step.new.stack.items c.loop-left.left (c.loop-left.left - 1) c.index.result.now
          i.forests (omega arith) (omega (arith, i.within)) c.index.ensures
          (λ fs rest takes are. forests_known now begun i.as_before (c.index.result.now ∷ rest) (reverse c.step.new.stack.items) (c.in_ok-step.ensures.comes_to fs rest takes (forests_known begun now i.kept fs (reverse c.loop-left.stack.items) are))) i.are;
      kept = λ f s is. c.in_ok-step.ensures.kept f s (i.kept f s is);
      as_before = λ f s is. i.as_before f s (c.in_ok-step.ensures.as_before f s is);
      ready = c.in_ok-step.ensures.ready;
      same = c.in_ok-step.ensures.same ∙ i.same;
      sound = c.in_ok-step.ensures.sound;
    }

pub returns-clause-sound : goal.returns-clause-sound
returns-clause-sound g c =
    let i = c.loop-left.invariant in
    sound_turned (g.T.FromLeaves.is_sound c.loop-left.by) c.in-Some.made.items c.reverse.new.self.items c.reverse.ensures.items
    (first_popped (g.T.FromLeaves.is_sound c.loop-left.by) c.loop-left.stack.items c.pop.new.self.items c.in-Some.made c.in-Some.ensures.items i.sound)

pub returns-clause-comes_to : goal.returns-clause-comes_to
returns-clause-comes_to g c =
    let i = c.loop-left.invariant in
    at_end (g.T.FromLeaves.comes_to c.args.by.now) c.args.from.now c.in_ok-forests.forests.items c.loop-left.stack.items c.pop.new.self.items c.in-Some.made c.reverse.new.self.items c.loop-left.left
    i.forests c.loop-left-test.false c.in-Some.ensures.items c.reverse.ensures.items i.are
