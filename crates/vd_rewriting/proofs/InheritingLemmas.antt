-- What a pass with states has still to make of the nodes that are being rewritten.
use Rattle.std.proofs.Common.{◌≡◌, ◌<◌, ◌≤◌, ℕ, ◌+◌, ◌*◌, List, [], ◌∷◌, ◌++◌, length, refl, sym, ap, ◌∙◌, subst, arith}
use Rattle.vd_bytes.specs.declared.places.Place.{Place}
use Rattle.vd_forest.specs.Forest.{Forest, nothing, more, next_of, size}
use Rattle.vd_forest.specs.Store.{at, Holds, Extends}
use Rattle.vd_rewriting.specs.declared.inheriting.Stage.{Stage}
use Rattle.vd_rewriting.specs.declared.inheriting.Stage.TheVariants.{Parts, Next}
use Rattle.vd_rewriting.specs.declared.inheriting.Waiting.{Waiting}
use Rattle.vd_rewriting.specs.Inheriting.{Rules, rewritten_under}

module _ {F G S : Type 0} (rules : Rules F G S) (fs : List (Forest F)) where
  -- what a node becomes, once what is being rewritten for it is
  abbrev pub closed : List (Forest G) → Stage → S → Forest F → Forest G → Forest G
  closed gs stage state nothing made = nothing
  closed gs Parts state (more form text place parts next) made =
      rules.pass state form text place parts made (rewritten_under rules (rules.along state form text place parts) next)
  closed gs (Next new) state (more form text place parts next) made = rules.pass state form text place parts (at gs new) made

  -- what the whole becomes, once what is at hand is rewritten. The first node that waits is the outermost
  abbrev pub whole : List (Forest G) → List (Waiting S) → Forest G → Forest G
  whole gs [] made = made
  whole gs (w ∷ ws) made = closed gs w.stage w.state (at fs w.number) (whole gs ws made)

  abbrev pub IsStage : List (Forest G) → Stage → Type 0
  IsStage gs Parts = Unit {0}
  IsStage gs (Next new) = new ≤ length gs

  -- each is a node of the store that is read, and its parts stand in the other, once they are rewritten
  abbrev pub AreWaiting : List (Forest G) → List (Waiting S) → Type 0
  AreWaiting gs [] = Unit {0}
  AreWaiting gs (w ∷ ws) = (0 < w.number) × (w.number ≤ length fs) × IsStage gs w.stage × AreWaiting gs ws

  -- the steps that are still to come
  abbrev pub steps_of : Stage → ℕ → ℕ
  steps_of Parts next = 3 * next + 2
  steps_of (Next new) next = 1

  abbrev pub steps : List (Waiting S) → ℕ
  steps [] = 0
  steps (w ∷ ws) = steps_of w.stage (size (next_of (at fs w.number))) + steps ws

  -- ---- one node more

  whole_more : (gs : List (Forest G)) (ws : List (Waiting S)) (w : Waiting S) (made : Forest G)
      → whole gs (ws ++ w ∷ []) made ≡ whole gs ws (closed gs w.stage w.state (at fs w.number) made)
  whole_more gs [] w made = refl
  whole_more gs (v ∷ ws) w made = ap (closed gs v.stage v.state (at fs v.number)) (whole_more gs ws w made)

  waiting_more : (gs : List (Forest G)) (ws : List (Waiting S)) (w : Waiting S) → AreWaiting gs ws → 0 < w.number → w.number ≤ length fs
      → IsStage gs w.stage → AreWaiting gs (ws ++ w ∷ [])
  waiting_more gs [] w all some within stage = (some, within, stage, tt)
  waiting_more gs (v ∷ ws) w all some within stage = (all.0, all.1, all.2, waiting_more gs ws w all.3 some within stage)

  waiting_front : (gs : List (Forest G)) (ws : List (Waiting S)) (w : Waiting S) → AreWaiting gs (ws ++ w ∷ []) → AreWaiting gs ws
  waiting_front gs [] w all = tt
  waiting_front gs (v ∷ ws) w all = (all.0, all.1, all.2, waiting_front gs ws w all.3)

  pub record IsWaiting (gs : List (Forest G)) (w : Waiting S) : Type 0 where
    pub some : 0 < w.number
    pub within : w.number ≤ length fs
    pub stage_in : IsStage gs w.stage

  waiting_last : (gs : List (Forest G)) (ws : List (Waiting S)) (w : Waiting S) → AreWaiting gs (ws ++ w ∷ []) → IsWaiting gs w
  waiting_last gs [] w all = record { some = all.0; within = all.1; stage_in = all.2 }
  waiting_last gs (v ∷ ws) w all = waiting_last gs ws w all.3

  steps_more : (ws : List (Waiting S)) (w : Waiting S) → steps (ws ++ w ∷ []) ≡ steps ws + steps_of w.stage (size (next_of (at fs w.number)))
  steps_more [] w = omega arith
  steps_more (v ∷ ws) w = omega (arith, steps_more ws w)

  -- ---- the other store grows

  stage_grown : (gs hs : List (Forest G)) (stage : Stage) → Extends gs hs → IsStage gs stage → IsStage hs stage
  stage_grown gs hs Parts grown within = tt
  stage_grown gs hs (Next new) grown within = omega (arith, grown.grows)

  waiting_grown : (gs hs : List (Forest G)) (ws : List (Waiting S)) → Extends gs hs → AreWaiting gs ws → AreWaiting hs ws
  waiting_grown gs hs [] grown all = tt
  waiting_grown gs hs (w ∷ ws) grown all = (all.0, all.1, stage_grown gs hs w.stage grown all.2, waiting_grown gs hs ws grown all.3)

  closed_grown : (gs hs : List (Forest G)) (stage : Stage) (state : S) (f : Forest F) (made : Forest G) → Extends gs hs → IsStage gs stage
      → closed hs stage state f made ≡ closed gs stage state f made
  closed_grown gs hs stage state nothing made grown within = refl
  closed_grown gs hs Parts state (more form text place parts next) made grown within = refl
  closed_grown gs hs (Next new) state (more form text place parts next) made grown within =
      ap (λ f. rules.pass state form text place parts f made) (grown.keeps new within)

  whole_grown : (gs hs : List (Forest G)) (ws : List (Waiting S)) (made : Forest G) → Extends gs hs → AreWaiting gs ws
      → whole hs ws made ≡ whole gs ws made
  whole_grown gs hs [] made grown all = refl
  whole_grown gs hs (w ∷ ws) made grown all =
      closed_grown gs hs w.stage w.state (at fs w.number) (whole hs ws made) grown all.2
      ∙ ap (closed gs w.stage w.state (at fs w.number)) (whole_grown gs hs ws made grown all.3)

  -- ---- the steps of the loop

  -- what is at hand: a forest that is to be rewritten, or, at the empty one, what was made last
  pub record IsAtHand (gs : List (Forest G)) (ws : List (Waiting S)) (left made : ℕ) (state : S) (want : Forest G) : Type 0 where
    pub waiting : AreWaiting gs ws
    pub going : 0 < left → whole gs ws (rewritten_under rules state (at fs left)) ≡ want
    pub back : left ≡ 0 → whole gs ws (at gs made) ≡ want

  pub at_hand : (gs : List (Forest G)) (ws : List (Waiting S)) (left : ℕ) (state : S) (want : Forest G) → AreWaiting gs ws
      → whole gs ws (rewritten_under rules state (at fs left)) ≡ want → IsAtHand gs ws left 0 state want
  at_hand gs ws left state want all wanted = record {
    waiting = all;
    going = λ some. wanted;
    back = λ none. ap (λ n. whole gs ws (rewritten_under rules state (at fs n))) (sym none) ∙ wanted;
  }

  -- a node is visited, and its parts come next
  pub visited : (gs : List (Forest G)) (ws vs : List (Waiting S)) (left made a b : ℕ) (state down : S) (form : F) (text : List ℕ) (place : Place) (parts : Forest F) (want : Forest G)
      → IsAtHand gs ws left made state want → 0 < left → left ≤ length fs
      → at fs left ≡ more form text place (at fs a) (at fs b) → parts ≡ at fs a → down ≡ rules.down state form text place parts
      → vs ≡ ws ++ record { number = left; state = state; stage = Parts } ∷ []
      → IsAtHand gs vs a 0 down want
  visited gs ws vs left made a b state down form text place parts want hand some within opened parts_is down_is pushed =
      let w : Waiting S = record { number = left; state = state; stage = Parts } in
      let all : AreWaiting gs (ws ++ w ∷ []) = waiting_more gs ws w hand.waiting some within tt in
      at_hand gs vs a down want
      (subst (AreWaiting gs) (sym pushed) all)
      (ap (λ us. whole gs us (rewritten_under rules down (at fs a))) pushed
      ∙ whole_more gs ws w (rewritten_under rules down (at fs a))
      ∙ ap (λ f. whole gs ws (closed gs Parts state f (rewritten_under rules down (at fs a)))) opened
      ∙ ap (λ d. whole gs ws (closed gs Parts state (more form text place (at fs a) (at fs b)) (rewritten_under rules d (at fs a)))) (down_is ∙ ap (rules.down state form text place) parts_is)
      ∙ ap (λ f. whole gs ws (rewritten_under rules state f)) (sym opened)
      ∙ hand.going some)

  pub visited_less : (ws vs : List (Waiting S)) (left a b : ℕ) (state : S) (form : F) (text : List ℕ) (place : Place)
      → at fs left ≡ more form text place (at fs a) (at fs b) → vs ≡ ws ++ record { number = left; state = state; stage = Parts } ∷ []
      → 3 * size (at fs a) + steps vs < 3 * size (at fs left) + steps ws
  visited_less ws vs left a b state form text place opened pushed =
      let w : Waiting S = record { number = left; state = state; stage = Parts } in
      omega (arith, steps_more ws w, ap steps pushed, ap size opened, ap (λ f. size (next_of f)) opened)

  -- the last node that waits
  pub popped : (gs : List (Forest G)) (us ws : List (Waiting S)) (w : Waiting S) (left made : ℕ) (state : S) (want : Forest G)
      → IsAtHand gs us left made state want → us ≡ ws ++ w ∷ [] → IsWaiting gs w
  popped gs us ws w left made state want hand is = waiting_last gs ws w (subst (AreWaiting gs) is hand.waiting)

  -- a node's parts are rewritten, and the trees after it come next
  pub parts_done : (gs : List (Forest G)) (us ws vs : List (Waiting S)) (number left made a b : ℕ) (here state along : S) (form : F) (text : List ℕ) (place : Place) (parts : Forest F) (want : Forest G)
      → IsAtHand gs us left made here want → left ≤ 0 → made ≤ length gs
      → us ≡ ws ++ record { number = number; state = state; stage = Parts } ∷ []
      → at fs number ≡ more form text place (at fs a) (at fs b) → parts ≡ at fs a → along ≡ rules.along state form text place parts
      → vs ≡ ws ++ record { number = number; state = state; stage = Next made } ∷ []
      → IsAtHand gs vs b 0 along want
  parts_done gs us ws vs number left made a b here state along form text place parts want hand none made_in is opened parts_is along_is pushed =
      let w : Waiting S = record { number = number; state = state; stage = Parts } in
      let v : Waiting S = record { number = number; state = state; stage = Next made } in
      let all = subst (AreWaiting gs) is hand.waiting in
      let last = waiting_last gs ws w all in
      let z : left ≡ 0 = omega arith in
      let next = rewritten_under rules along (at fs b) in
      at_hand gs vs b along want
      (subst (AreWaiting gs) (sym pushed) (waiting_more gs ws v (waiting_front gs ws w all) last.some last.within made_in))
      (ap (λ us. whole gs us next) pushed
      ∙ whole_more gs ws v next
      ∙ ap (λ f. whole gs ws (closed gs (Next made) state f next)) opened
      ∙ ap (λ s. whole gs ws (rules.pass state form text place (at fs a) (at gs made) (rewritten_under rules s (at fs b)))) (along_is ∙ ap (rules.along state form text place) parts_is)
      ∙ ap (λ f. whole gs ws (closed gs Parts state f (at gs made))) (sym opened)
      ∙ sym (whole_more gs ws w (at gs made))
      ∙ ap (λ us. whole gs us (at gs made)) (sym is)
      ∙ hand.back z)

  pub parts_less : (us ws vs : List (Waiting S)) (number left made a b : ℕ) (state : S) (form : F) (text : List ℕ) (place : Place)
      → us ≡ ws ++ record { number = number; state = state; stage = Parts } ∷ [] → at fs number ≡ more form text place (at fs a) (at fs b)
      → vs ≡ ws ++ record { number = number; state = state; stage = Next made } ∷ []
      → 3 * size (at fs b) + steps vs < 3 * size (at fs left) + steps us
  parts_less us ws vs number left made a b state form text place is opened pushed =
      let w : Waiting S = record { number = number; state = state; stage = Parts } in
      let v : Waiting S = record { number = number; state = state; stage = Next made } in
      omega (arith, steps_more ws w, steps_more ws v, ap steps is, ap steps pushed, ap (λ f. size (next_of f)) opened)

  -- a node is made
  pub made_done : (gs hs : List (Forest G)) (us ws : List (Waiting S)) (number left made a b new done : ℕ) (here state : S) (form : F) (text : List ℕ) (place : Place) (parts : Forest F) (want : Forest G)
      → IsAtHand gs us left made here want → left ≤ 0 → Extends gs hs
      → us ≡ ws ++ record { number = number; state = state; stage = Next new } ∷ []
      → at fs number ≡ more form text place (at fs a) (at fs b) → parts ≡ at fs a
      → Holds hs done (rules.pass state form text place parts (at gs new) (at gs made))
      → IsAtHand hs ws left done here want
  made_done gs hs us ws number left made a b new done here state form text place parts want hand none grown is opened parts_is held =
      let w : Waiting S = record { number = number; state = state; stage = Next new } in
      let all = waiting_front gs ws w (subst (AreWaiting gs) is hand.waiting) in
      let z : left ≡ 0 = omega arith in
      record {
        waiting = waiting_grown gs hs ws grown all;
        going = λ some. absurd (omega arith);
        back = λ _.
            whole_grown gs hs ws (at hs done) grown all
            ∙ ap (whole gs ws) held.is
            ∙ ap (λ f. whole gs ws (rules.pass state form text place f (at gs new) (at gs made))) parts_is
            ∙ ap (λ f. whole gs ws (closed gs (Next new) state f (at gs made))) (sym opened)
            ∙ sym (whole_more gs ws w (at gs made))
            ∙ ap (λ us. whole gs us (at gs made)) (sym is)
            ∙ hand.back z;
      }

  pub made_less : (us ws : List (Waiting S)) (number left new : ℕ) (state : S)
      → us ≡ ws ++ record { number = number; state = state; stage = Next new } ∷ [] → 3 * size (at fs left) + steps ws < 3 * size (at fs left) + steps us
  made_less us ws number left new state is =
      let w : Waiting S = record { number = number; state = state; stage = Next new } in omega (arith, steps_more ws w, ap steps is)

  -- nothing is left
  pub all_done : (gs : List (Forest G)) (ws : List (Waiting S)) (left made : ℕ) (state : S) (want : Forest G) → IsAtHand gs ws left made state want
      → left ≤ 0 → length ws ≤ 0 → made ≤ length gs → Holds gs made want
  all_done gs [] left made state want hand none closed within = record { within = within; is = hand.back (omega arith) }
  all_done gs (w ∷ ws) left made state want hand none closed within = absurd (omega arith)

pub ruleset inheriting_steps = (at_hand, visited, visited_less, popped, parts_done, parts_less, made_done, made_less, all_done)
