-- When two simulations are in corresponding states.
use Rattle.std.specs.Prelude.{◌≡◌, ℕ}
use Rattle.std.specs.List.{AllZip}
use Rattle.vd_kernel.specs.Models.{Model, Stimulus}
use Rattle.vd_kernel.specs.Values.{driving}
use Rattle.vd_kernel.specs.Cycles.{State, Round, Moment, next_time, initialised, cycle, state_after}
use Rattle.vd_kernel.specs.Correspondence.{SameView, SamePaused, SameStimulus}

-- what the processes did came to the same
pub record SameRound {P Q : Type 0} (joined : ℕ → ℕ → Type 0) (related : P → Q → Type 0) (r : Round P) (s : Round Q) : Type 0 where
  pub drivers : r.drivers ≡ s.drivers
  pub reports : r.reports ≡ s.reports
  pub processes : AllZip (SamePaused joined related) r.processes s.processes
  pub stop : r.stop ≡ s.stop

-- Equal time and delta, equal drivers in their order, the same to see at joined signals, and processes that pair in their order: each pair
-- is in related states and waits for the same.
pub record SameState {P Q : Type 0} (joined : ℕ → ℕ → Type 0) (related : P → Q → Type 0) (s : State P) (t : State Q) : Type 0 where
  pub time : s.time ≡ t.time
  pub delta : s.delta ≡ t.delta
  pub drivers : s.drivers ≡ t.drivers
  pub view : SameView joined s.view t.view
  pub processes : AllZip (SamePaused joined related) s.processes t.processes

-- one step of the two: when it is, what is seen, and what is done
pub record SameMoment {P Q : Type 0} (joined : ℕ → ℕ → Type 0) (related : P → Q → Type 0) (x : Moment P) (y : Moment Q) : Type 0 where
  pub time : x.time ≡ y.time
  pub delta : x.delta ≡ y.delta
  pub view : SameView joined x.view y.view
  pub round : SameRound joined related x.round y.round

-- Two designs go through the same states: initialisation is the same step of both, and from corresponding states the next time is the
-- same, and so is the step at any time. What a step leaves, where nothing stops, corresponds again (`state_after`). In corresponding
-- states joined signals have equal driving values too.
pub record SameSteps {P Q : Type 0} (joined : ℕ → ℕ → Type 0) (related : P → Q → Type 0) (m : Model P) (n : Model Q) : Type 0 where
  pub first : (given other : Stimulus) → SameStimulus joined given other → SameMoment joined related (initialised m given) (initialised n other)
  pub next : (s : State P) (t : State Q) → SameState joined related s t → next_time s ≡ next_time t
  pub cycles : (given other : Stimulus) → SameStimulus joined given other
      → (s : State P) (t : State Q) → SameState joined related s t → (now : ℕ) → SameMoment joined related (cycle m given s now) (cycle n other t now)
  pub driving_values : (given other : Stimulus) → SameStimulus joined given other
      → (s : State P) (t : State Q) → SameState joined related s t → (i j : ℕ) → joined i j → driving m.shape given s.drivers i ≡ driving n.shape other t.drivers j
  pub after : (x : Moment P) (y : Moment Q) → SameMoment joined related x y → SameState joined related (state_after x) (state_after y)
