-- Runs that are the same as one run are the same.
use Rattle.std.proofs.Common.{ℕ, sym, ap, ◌∙◌, rules}
use Rattle.vd_kernel.specs.Models.{Model, Stimulus}
use Rattle.vd_kernel.specs.Traces.{Outcome, Shows, Stopped, Step, End, Done, Quiet, Halted, TwoSources, Trace}
use Rattle.vd_kernel.specs.Correspondence.{SameStimulus, SameOutcome, SameStep, SameEnd, SameTrace, SameRun}
use Rattle.vd_kernel.specs.Composition.{Through, LeadsBack}
use Rattle.vd_kernel.proofs.ListPairs.{AllZip-through}

module _ (first second : ℕ → ℕ → Type 0) where
  outcome_through : (a b c : Outcome) → SameOutcome first a b → SameOutcome second b c → SameOutcome (Through first second) a c
  outcome_through (Shows f) (Shows g) (Shows h) x y = λ i k e. x i e.0 e.1 ∙ y e.0 k e.2
  outcome_through (Shows f) (Shows g) (Stopped c) x y = absurd y
  outcome_through (Shows f) (Stopped b) c x y = absurd x
  outcome_through (Stopped a) (Shows g) c x y = absurd x
  outcome_through (Stopped a) (Stopped b) (Shows h) x y = absurd y
  outcome_through (Stopped a) (Stopped b) (Stopped c) x y = x ∙ y

  step_through : (s t u : Step) → SameStep first s t → SameStep second t u → SameStep (Through first second) s u
  step_through s t u x y =
      record { time = x.time ∙ y.time; delta = x.delta ∙ y.delta; reports = x.reports ∙ y.reports; outcome = outcome_through _ _ _ x.outcome y.outcome }

  end_through : (a b c : End) → SameEnd first a b → SameEnd second b c → SameEnd (Through first second) a c
  end_through Done Done Done x y = tt
  end_through Quiet Quiet Quiet x y = tt
  end_through Halted Halted Halted x y = tt
  end_through (TwoSources i) (TwoSources j) (TwoSources k) x y = (j, x, y)
  end_through a b c x y = search rules

  trace_through : (s t u : Trace) → SameTrace first s t → SameTrace second t u → SameTrace (Through first second) s u
  trace_through s t u x y =
      record { steps = AllZip-through _ _ _ step_through _ _ _ x.steps y.steps; end = end_through _ _ _ x.end y.end }

-- The stimulus of the design between is made from that of the outer ones by the way back.
pub run_through : {P Q R : Type 0} (first second : ℕ → ℕ → Type 0) (m : Model P) (n : Model Q) (o : Model R) (back : ℕ → ℕ) → LeadsBack back first second → SameRun first m n → SameRun second n o → SameRun (Through first second) m o
run_through first second m n o back leads x y =
    record {
      traces = λ given other stimulus cycles.
          let between : Stimulus = λ j. given (back j) in
          let s : SameStimulus first given between = λ i j e. sym (ap given (leads.is_one i j e)) in
          let t : SameStimulus second between other = λ j k e. stimulus (back j) k (j, leads.joins j k e, e) in
          trace_through first second _ _ _ (x.traces given between s cycles) (y.traces between other t cycles);
    }
