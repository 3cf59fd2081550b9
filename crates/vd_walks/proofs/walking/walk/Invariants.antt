use Rattle.std.proofs.Common.{◌≡◌}
use Rattle.vd_forest.specs.Store.{Extends}
use Rattle.vd_walks.specs.Walking.{walked}
use Rattle.vd_walks.specs.Levels.{IsLevel, AreFrames, of_level, of_frames, steps}
use Rattle.vd_walks.proofs.walking.walk.Given as goal

abbrev pub invariant-loop-level : goal.invariant-loop-level
invariant-loop-level g l = record {
  level_in : IsLevel l.store l.out l.level;
  frames_in : AreFrames l.store l.out l.frames.items;
  extends : Extends l.fn.out l.out;
  same : of_frames (g.T.Walking.walker l.by) l.store l.out l.frames.items (of_level (g.T.Walking.walker l.by) l.store l.out l.design l.level) ≡ walked (g.T.Walking.walker l.by) l.from l.fn.at l.fn.design;
}

abbrev pub decreases-loop-level : goal.decreases-loop-level
decreases-loop-level g l = steps l.store l.frames.items l.level
