-- What the levels that are being walked come to, step by step.
use Rattle.std.proofs.Common.{◌≡◌, ◌≤◌, ℕ, List, [], ◌∷◌, ◌++◌, length, None, refl, sym, ap, ◌∙◌, arith}
use Rattle.vd_bytes.specs.declared.places.Place.{Place}
use Rattle.vd_forest.specs.Forest.{Forest, nothing, more, joined, turned}
use Rattle.vd_forest.specs.Store.{at, Holds, Extends}
use Rattle.vd_forest.proofs.ForestLemmas.{turned_turned}
use Rattle.vd_walks.specs.Least.{lesser}
use Rattle.vd_walks.proofs.OrderLaws.{lesser_brackets, lesser_right}
use Rattle.vd_walks.specs.declared.levels.SoFar.{SoFar}
use Rattle.vd_walks.specs.declared.levels.Level.{Level}
use Rattle.vd_walks.specs.declared.levels.Frame.{Frame}
use Rattle.vd_walks.specs.declared.walking.Outcome.{Outcome}
use Rattle.vd_walks.specs.Walking.{Walked, Walker, Done, Inside, together, followed, through, walked}
use Rattle.vd_walks.specs.Outcomes.{seen_in}
use Rattle.vd_walks.specs.Levels.{after, IsLevel, IsFrame, AreFrames, of_level, of_tree, of_frame, of_frames}

-- ---- trees after trees

module _ {G A D : Type 0} where
  after_grown : (gs hs : List (Forest G)) (so_far : SoFar) (o : Walked G A D) → Extends gs hs → so_far.trees ≤ length gs
      → after hs so_far o ≡ after gs so_far o
  after_grown gs hs so_far o grown within = ap (λ f. record { tree = turned f o.tree; at = o.at; design = o.design; first = lesser so_far.first o.first }) (grown.keeps so_far.trees within)

  -- a tree is put behind those so far
  after_together : (gs hs : List (Forest G)) (so_far new : SoFar) (o p : Walked G A D)
      → Holds hs new.trees (turned o.tree (at gs so_far.trees)) → new.first ≡ lesser so_far.first o.first
      → after hs new p ≡ after gs so_far (together o p)
  after_together gs hs so_far new o p trees first =
      let tree_is : turned (at hs new.trees) p.tree ≡ turned (at gs so_far.trees) (joined o.tree p.tree) =
      ap (λ f. turned f p.tree) trees.is ∙ turned_turned o.tree (at gs so_far.trees) p.tree in
      let first_is : lesser new.first p.first ≡ lesser so_far.first (lesser o.first p.first) =
      ap (λ f. lesser f p.first) first ∙ lesser_brackets so_far.first o.first p.first in
      λ i. record { tree = tree_is i; at = p.at; design = p.design; first = first_is i }

module _ {F G A D I : Type 0} (w : Walker F G A D I) (fs : List (Forest F)) where
  -- a level at its end
  pub ended : (gs hs : List (Forest G)) (d : D) (level : Level A) (o : Outcome A) → level.left ≡ 0
      → Holds hs o.tree (turned (at gs level.so_far.trees) nothing) → o.first ≡ level.so_far.first → o.at ≡ level.at
      → seen_in hs d o ≡ of_level w fs gs d level
  ended gs hs d level o none trees first_same at_same =
      let first_is : o.first ≡ lesser level.so_far.first None = first_same ∙ sym (lesser_right level.so_far.first) in
      let here : seen_in hs d o ≡ after gs level.so_far (walked w (at fs 0) level.at d) =
      λ i. record { tree = trees.is i; at = at_same i; design = d; first = first_is i } in
      here ∙ ap (λ n. after gs level.so_far (walked w (at fs n) level.at d)) (sym none)

  -- the level after a tree
  gone_on : (gs hs ks : List (Forest G)) (d : D) (so_far : SoFar) (next : Level A) (o : Outcome A) (b : ℕ)
      → Extends gs hs → so_far.trees ≤ length gs
      → Holds ks next.so_far.trees (turned (at hs o.tree) (at hs so_far.trees)) → next.so_far.first ≡ lesser so_far.first o.first
      → next.left ≡ b → next.at ≡ o.at
      → of_level w fs ks d next ≡ after gs so_far (followed (seen_in hs d o) (walked w (at fs b)))
  gone_on gs hs ks d so_far next o b grown within trees first left_is at_is =
      ap (λ n. after ks next.so_far (walked w (at fs n) next.at d)) left_is
      ∙ ap (λ s. after ks next.so_far (walked w (at fs b) s d)) at_is
      ∙ after_together hs ks so_far next.so_far (seen_in hs d o) (walked w (at fs b) o.at d) trees first
      ∙ after_grown gs hs so_far (together (seen_in hs d o) (walked w (at fs b) o.at d)) grown within

  -- a tree comes to something by itself
  pub tree_done : (gs hs ks : List (Forest G)) (d e : D) (level next : Level A) (o : Outcome A) (a b : ℕ) (form : F) (text : List ℕ) (place : Place) (parts : Forest F)
      → IsLevel fs gs level → at fs level.left ≡ more form text place (at fs a) (at fs b) → parts ≡ at fs a
      → Done (seen_in hs e o) ≡ w.enter form text place parts level.at d → Extends gs hs
      → Holds ks next.so_far.trees (turned (at hs o.tree) (at hs level.so_far.trees)) → next.so_far.first ≡ lesser level.so_far.first o.first
      → next.left ≡ b → next.at ≡ o.at
      → of_level w fs ks e next ≡ of_level w fs gs d level
  tree_done gs hs ks d e level next o a b form text place parts within opened parts_is entry grown trees first left_is at_is =
      gone_on gs hs ks e level.so_far next o b grown within.trees_in trees first left_is at_is
      ∙ ap (λ x. after gs level.so_far (followed (through w form text place (at fs a) (walked w (at fs a)) x) (walked w (at fs b))))
      (entry ∙ ap (λ f. w.enter form text place f level.at d) parts_is)
      ∙ ap (λ f. after gs level.so_far (walked w f level.at d)) (sym opened)

  -- its parts are walked
  pub tree_entered : (gs hs : List (Forest G)) (d e : D) (level : Level A) (here : A) (kept : I) (a b : ℕ) (form : F) (text : List ℕ) (place : Place) (parts : Forest F)
      → IsLevel fs gs level → at fs level.left ≡ more form text place (at fs a) (at fs b) → parts ≡ at fs a
      → Inside here e kept ≡ w.enter form text place parts level.at d → Extends gs hs
      → of_frame w fs hs (record { number = level.left; so_far = level.so_far; kept = kept }) (of_level w fs hs e (record { so_far = record { trees = 0; first = None }; left = a; at = here }))
      ≡ of_level w fs gs d level
  tree_entered gs hs d e level here kept a b form text place parts within opened parts_is entry grown =
      ap (λ f. of_tree w fs hs level.so_far kept f (walked w (at fs a) here e)) opened
      ∙ after_grown gs hs level.so_far (followed (w.leave kept form text place (at fs a) (walked w (at fs a) here e)) (walked w (at fs b))) grown within.trees_in
      ∙ ap (λ x. after gs level.so_far (followed (through w form text place (at fs a) (walked w (at fs a)) x) (walked w (at fs b))))
      (entry ∙ ap (λ f. w.enter form text place f level.at d) parts_is)
      ∙ ap (λ f. after gs level.so_far (walked w f level.at d)) (sym opened)

  -- and are left
  pub tree_left : (gs hs ks ls : List (Forest G)) (d e : D) (level next : Level A) (frame : Frame I) (inner o : Outcome A) (a b : ℕ) (form : F) (text : List ℕ) (place : Place) (parts : Forest F)
      → IsFrame fs gs frame → at fs frame.number ≡ more form text place (at fs a) (at fs b) → parts ≡ at fs a
      → seen_in hs d inner ≡ of_level w fs gs d level
      → seen_in ks e o ≡ w.leave frame.kept form text place parts (seen_in hs d inner) → Extends gs ks
      → Holds ls next.so_far.trees (turned (at ks o.tree) (at ks frame.so_far.trees)) → next.so_far.first ≡ lesser frame.so_far.first o.first
      → next.left ≡ b → next.at ≡ o.at
      → of_level w fs ls e next ≡ of_frame w fs gs frame (of_level w fs gs d level)
  tree_left gs hs ks ls d e level next frame inner o a b form text place parts within opened parts_is inner_is left_as grown trees first left_is at_is =
      gone_on gs ks ls e frame.so_far next o b grown within.trees_in trees first left_is at_is
      ∙ ap (λ x. after gs frame.so_far (followed x (walked w (at fs b))))
      (left_as ∙ ap (λ f. w.leave frame.kept form text place f (seen_in hs d inner)) parts_is ∙ ap (w.leave frame.kept form text place (at fs a)) inner_is)
      ∙ ap (λ f. of_tree w fs gs frame.so_far frame.kept f (of_level w fs gs d level)) (sym opened)

  -- ---- the frames

  pub frames_more : (gs : List (Forest G)) (frames : List (Frame I)) (frame : Frame I) (inner : Walked G A D)
      → of_frames w fs gs (frames ++ frame ∷ []) inner ≡ of_frames w fs gs frames (of_frame w fs gs frame inner)
  frames_more gs [] frame inner = refl
  frames_more gs (outer ∷ frames) frame inner = ap (of_frame w fs gs outer) (frames_more gs frames frame inner)

  tree_grown : (gs hs : List (Forest G)) (so_far : SoFar) (kept : I) (f : Forest F) (inner : Walked G A D) → Extends gs hs → so_far.trees ≤ length gs
      → of_tree w fs hs so_far kept f inner ≡ of_tree w fs gs so_far kept f inner
  tree_grown gs hs so_far kept nothing inner grown within = refl
  tree_grown gs hs so_far kept (more form text place parts next) inner grown within =
      after_grown gs hs so_far (followed (w.leave kept form text place parts inner) (walked w next)) grown within

  pub frames_grown : (gs hs : List (Forest G)) (frames : List (Frame I)) (inner : Walked G A D) → Extends gs hs → AreFrames fs gs frames
      → of_frames w fs hs frames inner ≡ of_frames w fs gs frames inner
  frames_grown gs hs [] inner grown all = refl
  frames_grown gs hs (frame ∷ frames) inner grown all =
      tree_grown gs hs frame.so_far frame.kept (at fs frame.number) (of_frames w fs hs frames inner) grown all.0.trees_in
      ∙ ap (of_frame w fs gs frame) (frames_grown gs hs frames inner grown all.1)

module _ {F G I : Type 0} (fs : List (Forest F)) where
  pub are_frames_grown : (gs hs : List (Forest G)) (frames : List (Frame I)) → Extends gs hs → AreFrames fs gs frames → AreFrames fs hs frames
  are_frames_grown gs hs [] grown all = tt
  are_frames_grown gs hs (frame ∷ frames) grown all =
      (record { some = all.0.some; number_in = all.0.number_in; trees_in = omega (arith, all.0.trees_in, grown.grows) }, are_frames_grown gs hs frames grown all.1)

  pub are_frames_more : (gs : List (Forest G)) (frames : List (Frame I)) (frame : Frame I) → AreFrames fs gs frames → IsFrame fs gs frame
      → AreFrames fs gs (frames ++ frame ∷ [])
  are_frames_more gs [] frame all is = (is, tt)
  are_frames_more gs (outer ∷ frames) frame all is = (all.0, are_frames_more gs frames frame all.1 is)

  pub are_frames_front : (gs : List (Forest G)) (frames : List (Frame I)) (frame : Frame I) → AreFrames fs gs (frames ++ frame ∷ []) → AreFrames fs gs frames
  are_frames_front gs [] frame all = tt
  are_frames_front gs (outer ∷ frames) frame all = (all.0, are_frames_front gs frames frame all.1)

  pub is_frame_last : (gs : List (Forest G)) (frames : List (Frame I)) (frame : Frame I) → AreFrames fs gs (frames ++ frame ∷ []) → IsFrame fs gs frame
  is_frame_last gs [] frame all = all.0
  is_frame_last gs (outer ∷ frames) frame all = is_frame_last gs frames frame all.1
