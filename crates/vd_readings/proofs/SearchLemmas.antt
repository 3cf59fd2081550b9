-- How a search goes on. No name has a dash, so that a caller can name each in `#[tactic(auto, using(..))]`.
use Rattle.std.proofs.Common.{◌≡◌, ◌<◌, ◌≤◌, ◌+◌, inl, inr, List, [], ◌∷◌, ◌++◌, length, reverse, Option, Some, None, refl, sym, ap, subst, ◌∙◌, arith, append_assoc}
use Rattle.std.specs.List.{Contains, sum_by}
use Rattle.std.specs.Map.{lookup}
use Rattle.std.specs.Option.{IfSome}
use Rattle.std.proofs.lemmas.List.{reverse-append}
use Rattle.std.proofs.lemmas.Map.Views.{Contains-from_lookup}
use Rattle.std.proofs.lemmas.List.Sums.{sum_by-append, sum_by-cons}
use Rattle.vd_forest.specs.Forest.{Forest, nothing, more}
use Rattle.vd_forest.specs.Store.{at, Extends}
use Rattle.vd_forms.specs.declared.form.Form.{Form}
use Rattle.vd_resolved.specs.declared.node.Resolved.{Resolved}
use Rattle.vd_states.specs.declared.states.State.{State}
use Rattle.vd_states.specs.declared.ways.Way.{Way}
use Rattle.vd_readings.specs.Readings.{Rules}
use Rattle.vd_readings.specs.Found.{IsFound, both}
use Rattle.vd_readings.specs.Search.{given_by, cost, asked_readings, asked_cost, awaited, waiting_cost, AreKnown, IsTrial, IsStage, IsWaiting, AreWaiting, IsStep}
use Rattle.vd_readings.specs.declared.found.Found.{Found}
use Rattle.vd_readings.specs.declared.trials.Asked.{Asked}
use Rattle.vd_readings.specs.declared.trials.Trial.{Trial}
use Rattle.vd_readings.specs.declared.trials.Stage.{Stage}
use Rattle.vd_readings.specs.declared.trials.Stage.TheVariants.{Inside, After}
use Rattle.vd_readings.specs.declared.trials.Waiting.{Waiting}
use Rattle.vd_readings.specs.declared.trials.Step.{Step}
use Rattle.vd_readings.specs.declared.trials.Step.TheVariants.{Wait, Done}
use Rattle.vd_readings.specs.contracts.trials.AskedPartialEq.TheImpl.{eq-value}
use Rattle.indexmap.specs.IndexMap.{insert_entry}
use Rattle.vd_readings.proofs.MemoLemmas.{same_asked, put_others}
use Rattle.vd_readings.proofs.FoundLemmas.{found_grown, found_both}

module _ (rules : Rules) where
  cost_positive : (f : Forest Form) (state : State) → 0 < cost rules f state
  cost_positive nothing state = omega arith
  cost_positive (more form text place parts next) state = omega arith

module _ (rules : Rules) (fs : List (Forest Form)) where
  pub cost_some : (asked : Asked) → 0 < asked_cost rules fs asked
  cost_some asked = cost_positive rules (at fs asked.number) asked.state

  -- what is recalled is right
  pub known_recalled : (gs : List (Forest Resolved)) (memo : List (Asked × Found)) (asked : Asked) (found : Option Found)
      → AreKnown rules fs gs memo → found ≡ lookup ((eq-value).it asked) memo → IfSome found (λ f. IsFound gs f (asked_readings rules fs asked))
  known_recalled gs memo asked None known is = tt
  known_recalled gs memo asked (Some f) known is = known asked f (Contains-from_lookup same_asked asked f memo (sym is))

  -- one thing more is known
  pub known_kept : (gs : List (Forest Resolved)) (old new : List (Asked × Found)) (asked : Asked) (found : Found)
      → AreKnown rules fs gs old → new ≡ insert_entry (eq-value).it old asked found → IsFound gs found (asked_readings rules fs asked)
      → AreKnown rules fs gs new
  known_kept gs old new asked found known kept is a f member =
      elim (put_others (eq-value).it same_asked asked found old a f (subst (λ es. Contains es (a, f)) kept member)) [
        | inl same ↦ subst (λ b. IsFound gs f (asked_readings rules fs b)) (sym same.0) (subst (λ g. IsFound gs g (asked_readings rules fs asked)) (sym same.1) is)
        | inr older ↦ known a f older
      ]

  pub known_grown : (gs hs : List (Forest Resolved)) (memo : List (Asked × Found)) → Extends gs hs → AreKnown rules fs gs memo → AreKnown rules fs hs memo
  known_grown gs hs memo grown known a f member = found_grown gs hs f (asked_readings rules fs a) grown (known a f member)

  -- the way at hand is done
  pub trial_more : (gs hs : List (Forest Resolved)) (w : Waiting) (found added : Found) (trial : Trial)
      → Extends gs hs → IsWaiting rules fs gs w → IsFound hs added (given_by rules (at fs w.trial.asked.number) w.way) → found ≡ both w.trial.found added
      → trial ≡ record { asked = w.trial.asked; ways = w.trial.ways; tried = w.trial.tried; found = found }
      → IsTrial rules fs hs trial
  trial_more gs hs w found added trial grown waits is total made =
      subst (IsTrial rules fs hs) (sym made)
      (record {
        some = waits.some;
        within = waits.within;
        before = waits.before ++ given_by rules (at fs w.trial.asked.number) w.way;
        found = subst (λ g. IsFound hs g (waits.before ++ given_by rules (at fs w.trial.asked.number) w.way)) (sym total)
            (found_both hs w.trial.found added waits.before (given_by rules (at fs w.trial.asked.number) w.way)
            (found_grown gs hs w.trial.found waits.before grown waits.found) is);
        left = waits.left ∙ sym (append_assoc waits.before (given_by rules (at fs w.trial.asked.number) w.way) _);
      })

  -- ---- the store of readings grows

  stage_grown : (gs hs : List (Forest Resolved)) (f : Forest Form) (way : Way) (stage : Stage) → Extends gs hs
      → IsStage rules fs gs f way stage → IsStage rules fs hs f way stage
  stage_grown gs hs f way Inside grown is = tt
  stage_grown gs hs f way (After inner) grown is = found_grown gs hs inner _ grown is

  pub one_waiting_grown : (gs hs : List (Forest Resolved)) (w : Waiting) → Extends gs hs → IsWaiting rules fs gs w → IsWaiting rules fs hs w
  one_waiting_grown gs hs w grown is = record {
    some = is.some;
    within = is.within;
    before = is.before;
    found = found_grown gs hs w.trial.found is.before grown is.found;
    left = is.left;
    stage = stage_grown gs hs (at fs w.trial.asked.number) w.way w.stage grown is.stage;
  }

  waiting_grown : (gs hs : List (Forest Resolved)) (ws : List Waiting) (here want : List (Forest Resolved)) → Extends gs hs
      → AreWaiting rules fs gs ws here want → AreWaiting rules fs hs ws here want
  waiting_grown gs hs [] here want grown all = all
  waiting_grown gs hs (w ∷ ws) here want grown all = (one_waiting_grown gs hs w grown all.0, all.1, waiting_grown gs hs ws _ want grown all.2)

  -- ---- the loop

  -- the step at hand is one of a forest for which the last of those waits that wait
  pub record IsGoing (gs : List (Forest Resolved)) (ws : List Waiting) (next : Step) (want : List (Forest Resolved)) : Type 0 where
    pub here : List (Forest Resolved)
    pub step : IsStep rules fs gs here next
    pub waiting : AreWaiting rules fs gs (reverse ws) here want

  turned_push : (ws : List Waiting) (w : Waiting) → reverse (ws ++ w ∷ []) ≡ w ∷ reverse ws
  turned_push ws w = reverse-append ws (w ∷ [])

  pub going_start : (gs : List (Forest Resolved)) (step : Step) (want : List (Forest Resolved)) → IsStep rules fs gs want step → IsGoing gs [] step want
  going_start gs step want is = record { here = want; step = is; waiting = refl }

  -- one more waits
  pub asked_within : (gs : List (Forest Resolved)) (ws : List Waiting) (step : Step) (w : Waiting) (asked : Asked) (want : List (Forest Resolved))
      → IsGoing gs ws step want → step ≡ Wait w asked → asked.number ≤ length fs
  asked_within gs ws step w asked want going is = (subst (IsStep rules fs gs going.here) is going.step).1

  pub going_wait : (gs hs : List (Forest Resolved)) (ws vs : List Waiting) (step next : Step) (w : Waiting) (asked : Asked) (want : List (Forest Resolved))
      → IsGoing gs ws step want → step ≡ Wait w asked → vs ≡ ws ++ w ∷ [] → hs ≡ gs → IsStep rules fs hs (asked_readings rules fs asked) next
      → IsGoing hs vs next want
  going_wait gs hs ws vs step next w asked want going is pushed same stepped =
      let now = subst (IsStep rules fs gs going.here) is going.step in
      record {
        here = asked_readings rules fs asked;
        step = stepped;
        waiting = subst (λ us. AreWaiting rules fs hs us (asked_readings rules fs asked) want) (sym (ap reverse pushed ∙ turned_push ws w))
            (subst (λ ks. AreWaiting rules fs ks (w ∷ reverse ws) (asked_readings rules fs asked) want) (sym same)
            (now.0, now.2, subst (λ here. AreWaiting rules fs gs (reverse ws) here want) (sym now.3) going.waiting));
      }

  -- the last of those that wait goes on
  all_waiting : (gs : List (Forest Resolved)) (us ws : List Waiting) (step : Step) (w : Waiting) (want : List (Forest Resolved))
      → (going : IsGoing gs us step want) → us ≡ ws ++ w ∷ [] → AreWaiting rules fs gs (w ∷ reverse ws) going.here want
  all_waiting gs us ws step w want going taken =
      subst (λ vs. AreWaiting rules fs gs vs going.here want) (ap reverse taken ∙ turned_push ws w) going.waiting

  pub last_waiting : (gs : List (Forest Resolved)) (us ws : List Waiting) (step : Step) (w : Waiting) (want : List (Forest Resolved))
      → IsGoing gs us step want → us ≡ ws ++ w ∷ [] → IsWaiting rules fs gs w
  last_waiting gs us ws step w want going taken = (all_waiting gs us ws step w want going taken).0

  pub last_found : (gs : List (Forest Resolved)) (us ws : List Waiting) (step : Step) (found : Found) (w : Waiting) (want : List (Forest Resolved))
      → IsGoing gs us step want → step ≡ Done found → us ≡ ws ++ w ∷ [] → IsFound gs found (awaited rules fs w)
  last_found gs us ws step found w want going is taken =
      subst (IsFound gs found) (all_waiting gs us ws step w want going taken).1 (subst (IsStep rules fs gs going.here) is going.step)

  pub going_done : (gs hs : List (Forest Resolved)) (us ws : List Waiting) (step next : Step) (w : Waiting) (want : List (Forest Resolved))
      → IsGoing gs us step want → us ≡ ws ++ w ∷ [] → Extends gs hs → IsStep rules fs hs (asked_readings rules fs w.trial.asked) next
      → IsGoing hs ws next want
  going_done gs hs us ws step next w want going taken grown stepped = record {
    here = asked_readings rules fs w.trial.asked;
    step = stepped;
    waiting = waiting_grown gs hs (reverse ws) (asked_readings rules fs w.trial.asked) want grown (all_waiting gs us ws step w want going taken).2;
  }

  -- nothing waits
  pub going_end : (gs : List (Forest Resolved)) (us : List Waiting) (step : Step) (found : Found) (want : List (Forest Resolved))
      → IsGoing gs us step want → step ≡ Done found → us ≡ [] → IsFound gs found want
  going_end gs us step found want going is none =
      subst (IsFound gs found) (subst (λ ws. AreWaiting rules fs gs (reverse ws) going.here want) none going.waiting)
      (subst (IsStep rules fs gs going.here) is going.step)

  -- ---- the steps that are left

  pub cost_push : (us ws : List Waiting) (w : Waiting) → us ≡ ws ++ w ∷ [] → sum_by (waiting_cost rules fs) us ≡ sum_by (waiting_cost rules fs) ws + waiting_cost rules fs w
  cost_push us ws w pushed =
      ap (sum_by (waiting_cost rules fs)) pushed ∙ sum_by-append (waiting_cost rules fs) ws (w ∷ [])
      ∙ ap (λ n. sum_by (waiting_cost rules fs) ws + n) (sum_by-cons (waiting_cost rules fs) w [] ∙ omega arith)

pub ruleset searching = (going_start, asked_within, going_wait, last_waiting, last_found, going_done, going_end, cost_push)
