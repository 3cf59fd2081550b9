-- How far a search for readings is: what is known, and the forests that wait for what stands inside and behind their first nodes.
use Rattle.std.specs.Prelude.{◌≡◌, ◌<◌, ◌≤◌, ℕ, ◌+◌, List, [], ◌∷◌, ◌++◌, length, drop}
use Rattle.std.specs.List.{Contains, flat_map, sum_by}
use Rattle.vd_forest.specs.Forest.{Forest, nothing, more, parts_of, next_of}
use Rattle.vd_forest.specs.Store.{at}
use Rattle.vd_forms.specs.declared.form.Form.{Form}
use Rattle.vd_resolved.specs.declared.node.Resolved.{Resolved}
use Rattle.vd_states.specs.declared.states.State.{State}
use Rattle.vd_states.specs.declared.ways.Way.{Way}
use Rattle.vd_readings.specs.Readings.{Rules, resolved, with_node, readings}
use Rattle.vd_readings.specs.Found.{IsFound}
use Rattle.vd_readings.specs.declared.found.Found.{Found}
use Rattle.vd_readings.specs.declared.trials.Asked.{Asked}
use Rattle.vd_readings.specs.declared.trials.Trial.{Trial}
use Rattle.vd_readings.specs.declared.trials.Stage.{Stage}
use Rattle.vd_readings.specs.declared.trials.Stage.TheVariants.{Inside, After}
use Rattle.vd_readings.specs.declared.trials.Waiting.{Waiting}
use Rattle.vd_readings.specs.declared.trials.Step.{Step}
use Rattle.vd_readings.specs.declared.trials.Step.TheVariants.{Wait, Done}

module _ (rules : Rules) where
  -- what one way gives at a forest's first node
  abbrev pub given_by : Forest Form → Way → List (Forest Resolved)
  given_by nothing way = []
  given_by (more form text place parts next) way =
      with_node (resolved form way) text place (readings rules parts way.inside) (readings rules next way.after)

  -- an upper bound of the steps that a forest takes
  abbrev pub cost : Forest Form → State → ℕ
  cost nothing state = 1
  cost (more form text place parts next) state =
      sum_by (λ way. cost parts way.inside + cost next way.after + 3) (rules.ways state form text parts) + 2

  -- of some ways of its first node
  abbrev pub way_cost : Forest Form → Way → ℕ
  way_cost f way = cost (parts_of f) way.inside + cost (next_of f) way.after + 3

  abbrev pub ways_cost : Forest Form → List Way → ℕ
  ways_cost f ways = sum_by (way_cost f) ways + 1

  module _ (fs : List (Forest Form)) where
    abbrev pub asked_readings : Asked → List (Forest Resolved)
    asked_readings asked = readings rules (at fs asked.number) asked.state

    abbrev pub asked_cost : Asked → ℕ
    asked_cost asked = cost (at fs asked.number) asked.state

    abbrev pub left_of : Trial → List Way
    left_of trial = drop trial.tried trial.ways.items

    abbrev pub trial_cost : Trial → ℕ
    trial_cost trial = ways_cost (at fs trial.asked.number) (left_of trial)

    -- what stands inside the node or behind it, whichever is waited for
    abbrev pub awaited : Waiting → List (Forest Resolved)
    awaited w = elim w.stage [
      | Inside ↦ readings rules (parts_of (at fs w.trial.asked.number)) w.way.inside
      | After inner ↦ readings rules (next_of (at fs w.trial.asked.number)) w.way.after
    ]

    abbrev pub waiting_cost : Waiting → ℕ
    waiting_cost w = elim w.stage [
      | Inside ↦ cost (next_of (at fs w.trial.asked.number)) w.way.after + 2 + trial_cost w.trial
      | After inner ↦ 1 + trial_cost w.trial
    ]

    abbrev pub step_cost : Step → ℕ
    step_cost (Wait w asked) = asked_cost asked + waiting_cost w
    step_cost (Done found) = 0

    module _ (gs : List (Forest Resolved)) where
      -- what is known is right
      abbrev pub AreKnown : List (Asked × Found) → Type 0
      AreKnown memo = (asked : Asked) (found : Found) → Contains memo (asked, found) → IsFound gs found (asked_readings asked)

      -- the ways before those that are left give what is found
      pub record IsTrial (trial : Trial) : Type 0 where
        pub some : 0 < trial.asked.number
        pub within : trial.asked.number ≤ length fs
        pub before : List (Forest Resolved)
        pub found : IsFound gs trial.found before
        pub left : asked_readings trial.asked ≡ before ++ flat_map (given_by (at fs trial.asked.number)) (left_of trial)

      abbrev pub IsStage : Forest Form → Way → Stage → Type 0
      IsStage f way Inside = Unit {0}
      IsStage f way (After inner) = IsFound gs inner (readings rules (parts_of f) way.inside)

      -- the way at hand stands between the two
      pub record IsWaiting (w : Waiting) : Type 0 where
        pub some : 0 < w.trial.asked.number
        pub within : w.trial.asked.number ≤ length fs
        pub before : List (Forest Resolved)
        pub found : IsFound gs w.trial.found before
        pub left : asked_readings w.trial.asked ≡ before ++ (given_by (at fs w.trial.asked.number) w.way
            ++ flat_map (given_by (at fs w.trial.asked.number)) (left_of w.trial))
        pub stage : IsStage (at fs w.trial.asked.number) w.way w.stage

      -- each waits for the one above it, the first for what is asked, and the last one's readings are wanted
      abbrev pub AreWaiting : List Waiting → List (Forest Resolved) → List (Forest Resolved) → Type 0
      AreWaiting [] here want = here ≡ want
      AreWaiting (w ∷ ws) here want = IsWaiting w × (here ≡ awaited w) × AreWaiting ws (asked_readings w.trial.asked) want

      -- the next step of a forest with these readings
      abbrev pub IsStep : List (Forest Resolved) → Step → Type 0
      IsStep all (Wait w asked) = IsWaiting w × (asked.number ≤ length fs) × (asked_readings asked ≡ awaited w) × (asked_readings w.trial.asked ≡ all)
      IsStep all (Done found) = IsFound gs found all
