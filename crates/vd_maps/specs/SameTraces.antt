-- Two traces are the same through a map: step by step equal times, delta numbers and reports, and equal values of joined signals; and they end in equal stops, or both are quiet, or
-- neither.
use Rattle.std.specs.Prelude.{◌≡◌, ℕ, slice_get}
use Rattle.std.specs.List.{AllZip}
use Rattle.vd_trees.specs.Traces.{Outcome, shows, stops, Step, End, done, quiet, halted, not_elaborated, Trace}
use Rattle.vd_kernel.specs.Models.{Stimulus}
use Rattle.vd_kernel.specs.Stimuli.{SameAtInputs}
use Rattle.vd_meaning.specs.Building.{Made}
use Rattle.vd_meaning.specs.Elaborations.{shape_of, trace_of}
use Rattle.vd_joins.specs.Joins.{Joining}
use Rattle.vd_maps.specs.SameRuns.{Joins, EqualStops}

-- signals that join show the same, or both steps stop
abbrev pub SameOutcomes : Joining → (ℕ → ℕ → Type 0) → Outcome → Outcome → Type 0
SameOutcomes by joined (shows vs) (shows ws) = (i j : ℕ) → joined i j → slice_get vs i ≡ slice_get ws j
SameOutcomes by joined (shows vs) (stops t) = ⊥
SameOutcomes by joined (stops s) (shows ws) = ⊥
SameOutcomes by joined (stops s) (stops t) = EqualStops by s t

pub record SameSteps (by : Joining) (joined : ℕ → ℕ → Type 0) (s t : Step) : Type 0 where
  pub time : s.time ≡ t.time
  pub delta : s.delta ≡ t.delta
  pub reports : s.reports ≡ t.reports
  pub outcome : SameOutcomes by joined s.outcome t.outcome

abbrev pub SameEnds : Joining → End → End → Type 0
SameEnds by done done = Unit {0}
SameEnds by quiet quiet = Unit {0}
SameEnds by halted halted = Unit {0}
SameEnds by (not_elaborated s) (not_elaborated t) = EqualStops by s t
SameEnds by _ _ = ⊥

-- equally many steps, each as its own, and an equal end
pub record SameTraces (by : Joining) (joined : ℕ → ℕ → Type 0) (s t : Trace) : Type 0 where
  pub steps : AllZip (SameSteps by joined) s.steps t.steps
  pub end : SameEnds by s.end t.end

-- for every two stimuli that are equal at inputs that join, and any number of cycles
pub record HaveSameTraces (by : Joining) (m n : Made) : Type 0 where
  pub traces : (given other : Stimulus) → SameAtInputs (Joins by m n) (shape_of m) given other → (cycles : ℕ)
      → SameTraces by (Joins by m n) (trace_of m given cycles) (trace_of n other cycles)
