-- When two elaborated designs correspond, and when they have the same run. In all of this, joined says which signals of the one
-- design join which of the other.
use Rattle.std.specs.Prelude.{◌≡◌, ℕ, Option, Some, None, length}
use Rattle.std.specs.List.{AllZip}
use Rattle.vd_kernel.specs.declared.assignments.Source.{Source}
use Rattle.vd_kernel.specs.declared.assignments.Source.TheVariants.{Driver as ByDriver, Port as ByPort}
use Rattle.vd_kernel.specs.Models.{Signal, View, Cause, Paused, Ending, Waits, Stops, Turn, Shape, Model, Stimulus, signal_at}
use Rattle.vd_kernel.specs.Cycles.{has_event}
use Rattle.vd_kernel.specs.Traces.{Outcome, Shows, Stopped, Step, End, Done, Quiet, Halted, TwoSources, Trace, with_two, trace}

abbrev pub BothOrNone : {A B : Type 0} → (A → B → Type 0) → Option A → Option B → Type 0
BothOrNone R None None = Unit {0}
BothOrNone R None (Some y) = ⊥
BothOrNone R (Some x) None = ⊥
BothOrNone R (Some x) (Some y) = R x y

-- the same driver, or joined ports
abbrev pub SameSource : (ℕ → ℕ → Type 0) → Source → Source → Type 0
SameSource joined (ByDriver d) (ByDriver e) = d ≡ e
SameSource joined (ByDriver d) (ByPort j) = ⊥
SameSource joined (ByPort i) (ByDriver e) = ⊥
SameSource joined (ByPort i) (ByPort j) = joined i j

-- two signals that are alike up to the join
pub record SameSignal (joined : ℕ → ℕ → Type 0) (s t : Signal) : Type 0 where
  pub initial : s.initial ≡ t.initial
  pub is_resolved : s.is_resolved ≡ t.is_resolved
  pub sources : AllZip (SameSource joined) s.sources t.sources
  pub actual : BothOrNone joined s.actual t.actual
  pub is_out : s.is_out ≡ t.is_out
  pub input : s.input ≡ t.input

-- at joined signals there is the same to see
pub record SameView (joined : ℕ → ℕ → Type 0) (v w : View) : Type 0 where
  pub time : v.time ≡ w.time
  pub value : (i j : ℕ) → joined i j → v.value i ≡ w.value j
  pub shown : (i j : ℕ) → joined i j → v.shown i ≡ w.shown j
  pub before : (i j : ℕ) → joined i j → v.before i ≡ w.before j

-- Two processes are in related states, wait for the same events, in whatever order their signals are listed, and until the same time.
pub record SamePaused {P Q : Type 0} (joined : ℕ → ℕ → Type 0) (related : P → Q → Type 0) (p : Paused P) (q : Paused Q) : Type 0 where
  pub state : related p.state q.state
  pub on : (v w : View) → SameView joined v w → has_event v p.on ≡ has_event w q.on
  pub timeout : p.timeout ≡ q.timeout

abbrev pub SameEnding : {P Q : Type 0} → (ℕ → ℕ → Type 0) → (P → Q → Type 0) → Ending P → Ending Q → Type 0
SameEnding joined related (Waits p) (Waits q) = SamePaused joined related p q
SameEnding joined related (Waits p) (Stops l) = ⊥
SameEnding joined related (Stops k) (Waits q) = ⊥
SameEnding joined related (Stops k) (Stops l) = k ≡ l

-- Two processes assign alike, report alike, and go on or stop alike.
pub record SameTurn {P Q : Type 0} (joined : ℕ → ℕ → Type 0) (related : P → Q → Type 0) (t : Turn P) (u : Turn Q) : Type 0 where
  pub assignments : t.assignments ≡ u.assignments
  pub reports : t.reports ≡ u.reports
  pub ending : SameEnding joined related t.ending u.ending

-- Joined signals are alike, the drivers are joined in their order, and the same signal has two sources, or none has.
pub record SameShape (joined : ℕ → ℕ → Type 0) (m n : Shape) : Type 0 where
  pub number : length m.signals ≡ length n.signals
  pub signals : (i j : ℕ) → joined i j → SameSignal joined (signal_at m i) (signal_at n j)
  pub two : BothOrNone joined (with_two 0 m.signals) (with_two 0 n.signals)
  pub driven : AllZip joined m.driven n.driven
  pub inputs : AllZip joined m.inputs n.inputs

-- Two elaborated designs correspond: they have the same shape, their processes are related in their order, and related processes
-- take the same turn wherever they see the same.
pub record Corresponds {P Q : Type 0} (joined : ℕ → ℕ → Type 0) (related : P → Q → Type 0) (m : Model P) (n : Model Q) : Type 0 where
  pub shape : SameShape joined m.shape n.shape
  pub starts : AllZip related m.processes n.processes
  pub steps : (p : P) (q : Q) → related p q → (c : Cause) (v w : View) → SameView joined v w → SameTurn joined related (m.step p c v) (n.step q c w)

-- the outside does the same at joined signals
abbrev pub SameStimulus : (ℕ → ℕ → Type 0) → Stimulus → Stimulus → Type 0
SameStimulus joined given other = (i j : ℕ) → joined i j → given i ≡ other j

-- The same run

abbrev pub SameOutcome : (ℕ → ℕ → Type 0) → Outcome → Outcome → Type 0
SameOutcome joined (Shows v) (Shows w) = (i j : ℕ) → joined i j → v i ≡ w j
SameOutcome joined (Shows v) (Stopped t) = ⊥
SameOutcome joined (Stopped s) (Shows w) = ⊥
SameOutcome joined (Stopped s) (Stopped t) = s ≡ t

pub record SameStep (joined : ℕ → ℕ → Type 0) (s t : Step) : Type 0 where
  pub time : s.time ≡ t.time
  pub delta : s.delta ≡ t.delta
  pub reports : s.reports ≡ t.reports
  pub outcome : SameOutcome joined s.outcome t.outcome

abbrev pub SameEnd : (ℕ → ℕ → Type 0) → End → End → Type 0
SameEnd joined Done Done = Unit {0}
SameEnd joined Quiet Quiet = Unit {0}
SameEnd joined Halted Halted = Unit {0}
SameEnd joined (TwoSources i) (TwoSources j) = joined i j
SameEnd joined _ _ = ⊥

-- equally many steps, the same step by step, with the same end
pub record SameTrace (joined : ℕ → ℕ → Type 0) (s t : Trace) : Type 0 where
  pub steps : AllZip (SameStep joined) s.steps t.steps
  pub end : SameEnd joined s.end t.end

-- Two designs have the same run: whatever the outside does, and after any number of cycles, their traces are the same.
pub record SameRun {P Q : Type 0} (joined : ℕ → ℕ → Type 0) (m : Model P) (n : Model Q) : Type 0 where
  pub traces : (given other : Stimulus) → SameStimulus joined given other → (cycles : ℕ) → SameTrace joined (trace m given cycles) (trace n other cycles)
