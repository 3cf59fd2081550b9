-- A run that is the same through one join is the same through another one that joins the same signals.
use Rattle.std.proofs.Common.{ℕ, rules}
use Rattle.vd_kernel.specs.Models.{Model}
use Rattle.vd_kernel.specs.Traces.{Outcome, Shows, Stopped, Step, End, Done, Quiet, Halted, TwoSources}
use Rattle.vd_kernel.specs.Correspondence.{SameOutcome, SameStep, SameEnd, SameRun}
use Rattle.vd_kernel.proofs.ListPairs.{AllZip-implies}

module _ (first second : ℕ → ℕ → Type 0) (forth : (i j : ℕ) → first i j → second i j) (back : (i j : ℕ) → second i j → first i j) where
  outcome_by : (a b : Outcome) → SameOutcome first a b → SameOutcome second a b
  outcome_by (Shows f) (Shows g) x = λ i j e. x i j (back i j e)
  outcome_by (Shows f) (Stopped b) x = absurd x
  outcome_by (Stopped a) (Shows g) x = absurd x
  outcome_by (Stopped a) (Stopped b) x = x

  step_by : (s t : Step) → SameStep first s t → SameStep second s t
  step_by s t x =
      record { time = x.time; delta = x.delta; reports = x.reports; outcome = outcome_by s.outcome t.outcome x.outcome }

  end_by : (a b : End) → SameEnd first a b → SameEnd second a b
  end_by Done Done x = tt
  end_by Quiet Quiet x = tt
  end_by Halted Halted x = tt
  end_by (TwoSources i) (TwoSources j) x = forth i j x
  end_by a b x = search rules

  pub run_by_join : {P Q : Type 0} (m : Model P) (n : Model Q) → SameRun first m n → SameRun second m n
  run_by_join m n r =
      record {
        traces = λ given other same cycles.
            let x = r.traces given other (λ i j e. same i j (forth i j e)) cycles in
            record { steps = AllZip-implies _ _ step_by _ _ x.steps; end = end_by _ _ x.end };
      }
