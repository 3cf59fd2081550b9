-- What the levels that are being walked come to.
use Rattle.std.specs.Prelude.{ℕ, ◌+◌, ◌*◌, ◌<◌, ◌≤◌, List, [], ◌∷◌, length}
use Rattle.std.specs.List.{sum_by}
use Rattle.vd_forest.specs.Forest.{Forest, nothing, more, next_of, size, turned}
use Rattle.vd_forest.specs.Store.{at}
use Rattle.vd_walks.specs.Least.{lesser}
use Rattle.vd_walks.specs.declared.levels.SoFar.{SoFar}
use Rattle.vd_walks.specs.declared.levels.Level.{Level}
use Rattle.vd_walks.specs.declared.levels.Frame.{Frame}
use Rattle.vd_walks.specs.Walking.{Walked, Walker, followed, walked}

-- what a level has come to so far, and then other trees
abbrev pub after : {G A D : Type 0} → List (Forest G) → SoFar → Walked G A D → Walked G A D
after gs so_far o = record { tree = turned (at gs so_far.trees) o.tree; at = o.at; design = o.design; first = lesser so_far.first o.first }

-- the numbers of a level are those of forests
pub record IsLevel {F G A : Type 0} (fs : List (Forest F)) (gs : List (Forest G)) (level : Level A) : Type 0 where
  pub left_in : level.left ≤ length fs
  pub trees_in : level.so_far.trees ≤ length gs

-- the numbers of a frame are those of a tree, and of a forest
pub record IsFrame {F G I : Type 0} (fs : List (Forest F)) (gs : List (Forest G)) (frame : Frame I) : Type 0 where
  pub some : 0 < frame.number
  pub number_in : frame.number ≤ length fs
  pub trees_in : frame.so_far.trees ≤ length gs

abbrev pub AreFrames : {F G I : Type 0} → List (Forest F) → List (Forest G) → List (Frame I) → Type 0
AreFrames fs gs [] = Unit {0}
AreFrames fs gs (frame ∷ frames) = IsFrame fs gs frame × AreFrames fs gs frames

-- the steps that are left at a frame, and in all
abbrev pub frame_steps : {F I : Type 0} → List (Forest F) → Frame I → ℕ
frame_steps fs frame = 2 * size (next_of (at fs frame.number)) + 1

abbrev pub steps : {F A I : Type 0} → List (Forest F) → List (Frame I) → Level A → ℕ
steps fs frames level = 2 * size (at fs level.left) + sum_by (frame_steps fs) frames

module _ {F G A D I : Type 0} (w : Walker F G A D I) (fs : List (Forest F)) where
  -- what a level comes to
  abbrev pub of_level : List (Forest G) → D → Level A → Walked G A D
  of_level gs d level = after gs level.so_far (walked w (at fs level.left) level.at d)

  -- what the level of a tree comes to, given what its parts do
  abbrev pub of_tree : List (Forest G) → SoFar → I → Forest F → Walked G A D → Walked G A D
  of_tree gs so_far kept nothing inner = inner
  of_tree gs so_far kept (more form text place parts next) inner =
      after gs so_far (followed (w.leave kept form text place parts inner) (walked w next))

  abbrev pub of_frame : List (Forest G) → Frame I → Walked G A D → Walked G A D
  of_frame gs frame inner = of_tree gs frame.so_far frame.kept (at fs frame.number) inner

  -- what the outermost level comes to, given what the innermost does. The first frame is the outermost
  abbrev pub of_frames : List (Forest G) → List (Frame I) → Walked G A D → Walked G A D
  of_frames gs [] inner = inner
  of_frames gs (frame ∷ frames) inner = of_frame gs frame (of_frames gs frames inner)
