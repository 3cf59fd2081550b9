-- Two traces are the same through a map: step by step equal times, delta numbers and reports, equal values of joined signals, and
-- equal stops, which are those of one kind and time at places that join.
use Rattle.std.specs.Prelude.{◌≡◌, ℕ, List, length, slice_get, Option, Some, None}
use Rattle.std.specs.List.{AllZip}
use Rattle.vd_forest.specs.Forest.{Forest}
use Rattle.vd_first_trees.specs.declared.form.Form.{Form}
use Rattle.vd_trees.specs.declared.rows.Row.{Row}
use Rattle.vd_trees.specs.declared.traces.Stop.{Stop}
use Rattle.vd_trees.specs.Traces.{Outcome, shows, stops, Step, End, done, quiet, halted, not_elaborated, Trace}
use Rattle.vd_first_names.specs.Joins.{ScopesJoin}
use Rattle.vd_kernel.specs.Models.{Stimulus}
use Rattle.vd_kernel.specs.Stimuli.{SameAtInputs}
use Rattle.vd_first_elaboration.specs.Tops.{Top}
use Rattle.vd_first_elaboration.specs.Elaboration.{Elaborated, elaboration}
use Rattle.vd_first_elaboration.specs.Traces.{trace_of}
use Rattle.vd_first_correspondence.specs.WholeMaps.{Joined}
use Rattle.vd_first_correspondence.specs.SameRuns.{IsSameRun}

pub record SameStop (rows : List Row) (s t : Stop) : Type 0 where
  pub kind : s.kind ≡ t.kind
  pub time : s.time ≡ t.time
  pub delta : s.delta ≡ t.delta
  pub scope : ScopesJoin rows s.scope t.scope
  pub text : s.text ≡ t.text

-- signals that are joined show the same, or both stop
abbrev pub SameOutcomes : List Row → (ℕ → ℕ → Type 0) → Outcome → Outcome → Type 0
SameOutcomes rows joined (shows vs) (shows ws) = (i j : ℕ) → joined i j → slice_get vs i ≡ slice_get ws j
SameOutcomes rows joined (shows vs) (stops t) = ⊥
SameOutcomes rows joined (stops s) (shows ws) = ⊥
SameOutcomes rows joined (stops s) (stops t) = SameStop rows s t

pub record SameSteps (rows : List Row) (joined : ℕ → ℕ → Type 0) (s t : Step) : Type 0 where
  pub time : s.time ≡ t.time
  pub delta : s.delta ≡ t.delta
  pub reports : s.reports ≡ t.reports
  pub outcome : SameOutcomes rows joined s.outcome t.outcome

abbrev pub SameEnds : List Row → End → End → Type 0
SameEnds rows done done = Unit {0}
SameEnds rows quiet quiet = Unit {0}
SameEnds rows halted halted = Unit {0}
SameEnds rows (not_elaborated s) (not_elaborated t) = SameStop rows s t
SameEnds rows _ _ = ⊥

pub record SameTraces (rows : List Row) (joined : ℕ → ℕ → Type 0) (s t : Trace) : Type 0 where
  pub steps : AllZip (SameSteps rows joined) s.steps t.steps
  pub end : SameEnds rows s.end t.end

-- for every two stimuli that are equal at inputs that the map joins, and any number of cycles
pub record HaveSameTraces (rows : List Row) (m n : Elaborated) : Type 0 where
  pub traces : (given other : Stimulus) → SameAtInputs (Joined rows m.signals n.signals) m.model.shape given other → (cycles : ℕ) → SameTraces rows (Joined rows m.signals n.signals) (trace_of m given cycles) (trace_of n other cycles)

-- designs with the same run have the same traces
abbrev pub RunsGiveTraces : Type 0
RunsGiveTraces = (rows : List Row) (m n : Elaborated) → IsSameRun rows m n → HaveSameTraces rows m n

-- ---- where each name stands for itself

-- Two designs show the same, signal by signal in their order: their scalar signals have the same paths, modes and marks, their
-- processes stand at the same places, and whatever the outside does and however many cycles are asked for, their traces are equal.
pub record ShowSame (m n : Elaborated) : Type 0 where
  pub signals : m.signals ≡ n.signals
  pub scopes : m.scopes ≡ n.scopes
  pub processes : length m.model.processes ≡ length n.model.processes
  pub traces : (given : Stimulus) (cycles : ℕ) → trace_of m given cycles ≡ trace_of n given cycles

-- both designs have the top and show the same, or neither has it
abbrev pub ShowSameFor : Option Elaborated → Option Elaborated → Type 0
ShowSameFor None None = Unit {0}
ShowSameFor None (Some n) = ⊥
ShowSameFor (Some m) None = ⊥
ShowSameFor (Some m) (Some n) = ShowSame m n

-- two trees show the same, whatever the top
pub record TreesShowSame (left right : Forest Form) : Type 0 where
  pub for_each : (top : Top) → ShowSameFor (elaboration left top) (elaboration right top)
