use Rattle.std.proofs.Common.{refl, arith, sym, ap, ◌∙◌, subst}
use Rattle.vd_forest.proofs.StoreLemmas.{extends_trans}
use Rattle.vd_walks.specs.Levels.{AreFrames, of_level, of_frames}
use Rattle.vd_walks.proofs.WalkingLemmas.{frames_more, frames_grown, are_frames_grown, are_frames_front, is_frame_last}
use Rattle.vd_walks.proofs.walking.walk.Goals as goal

pub end_level-requires : goal.end_level-requires
end_level-requires g c κs = (
  (refl, tt),
  (
    omega (arith, c.if-level-gt0-2.false),
    (
      c.loop-level.invariant.level_in,
      is_frame_last c.stands-number.result.0.now c.loop-level.out c.pop.new.self.items c.in-Some.frame
          (subst (AreFrames c.stands-number.result.0.now c.loop-level.out) c.in-Some.ensures.items c.loop-level.invariant.frames_in),
    ),
  ),
)

pub loop-level-preserved-in-Some : goal.loop-level-preserved-in-Some
loop-level-preserved-in-Some g c =
    let w = g.T.Walking.walker c.args.by.now in
    let fs = c.stands-number.result.0.now in
    let gs = c.loop-level.out in
    let i = c.loop-level.invariant in
    let done = c.in_ok-level-2.ensures in
    let outer = c.pop.new.self.items in
    let here = of_level w fs gs c.loop-level.design c.loop-level.level in
    let frames_in = are_frames_front fs gs outer c.in-Some.frame (subst (AreFrames fs gs) c.in-Some.ensures.items i.frames_in) in
    record {
      level_in = done.level_in;
      frames_in = are_frames_grown fs gs c.end_level.new.out outer done.extends frames_in;
      extends = extends_trans _ _ _ i.extends done.extends;
      same =
          frames_grown w fs gs c.end_level.new.out outer (of_level w fs c.end_level.new.out c.end_level.new.design c.in_ok-level-2.level) done.extends frames_in
          ∙ ap (of_frames w fs gs outer) done.same
          ∙ sym (frames_more w fs gs outer c.in-Some.frame here)
          ∙ ap (λ frames. of_frames w fs gs frames here) (sym c.in-Some.ensures.items)
          ∙ i.same;
    }
