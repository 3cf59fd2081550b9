-- Where signals join in their order, the same run gives equal traces.
use Rattle.std.proofs.Common.{◌≡◌, ◌<◌, ℕ, suc, ◌+◌, List, [], ◌∷◌, map, length, refl, ap, ◌∙◌, arith}
use Rattle.std.specs.Prelude.{slice_get}
use Rattle.std.specs.List.{AllZip}
use Rattle.vd_values.specs.declared.scalar.Scalar.{Scalar}
use Rattle.vd_trees.specs.Traces.{Outcome as ShownOutcome, shows, stops, Step as ShownStep, not_elaborated, Trace}
use Rattle.vd_trees.specs.declared.traces.Report.{Report}
use Rattle.vd_values.specs.declared.scalar.StopKind.TheVariants.{TwoSources as TwoSourcesStop}
use Rattle.vd_kernel.specs.Traces.{Outcome, Shows, Stopped, Step, End, Done, Quiet, Halted, TwoSources, Trace as KernelTrace}
use Rattle.vd_kernel.specs.Correspondence.{SameOutcome, SameStep, SameEnd, SameTrace}
use Rattle.vd_first_elaboration.specs.Signals.{ScalarSignal}
use Rattle.vd_first_elaboration.specs.Elaboration.{Elaborated}
use Rattle.vd_first_elaboration.specs.Traces.{scope_or_none, declared_in, stop_text, values_from, outcome_of, step_of, end_of}

-- a trace of the kernel, as that of the design
abbrev pub shown_trace : Elaborated → KernelTrace → Trace
shown_trace e t = record { steps = map (step_of e) t.steps; end = end_of e t.end }

abbrev step_with : ℕ → ℕ → List Report → ShownOutcome → ShownStep
step_with time delta reports outcome = record { time = time; delta = delta; reports = reports; outcome = outcome }

same_step : (a b c d : ℕ) (rs ss : List Report) (o p : ShownOutcome) → a ≡ b → c ≡ d → rs ≡ ss → o ≡ p → step_with a c rs o ≡ step_with b d ss p
same_step a b c d rs ss o p time delta reports outcome = rw (time, delta, reports, outcome) refl

module _ (joined : ℕ → ℕ → Type 0) (m n : Elaborated) (signals : m.signals ≡ n.signals) (scopes : m.scopes ≡ n.scopes)
    (there : (i : ℕ) → i < length m.signals → joined i i) (one : (i j : ℕ) → joined i j → i ≡ j) where
  values_equal : (v w : ℕ → Scalar) → ((i j : ℕ) → joined i j → v i ≡ w j) → (k : ℕ) (ss : List ScalarSignal) → k + length ss ≡ length m.signals → values_from v k ss ≡ values_from w k ss
  values_equal v w same k [] long = refl
  values_equal v w same k (s ∷ ss) long =
      ap (λ x. x ∷ values_from v (suc k) ss) (same k k (there k (omega (arith, long)))) ∙ ap (λ xs. w k ∷ xs) (values_equal v w same (suc k) ss (omega (arith, long)))

  outcome_equal : (s : Step) (a b : Outcome) → SameOutcome joined a b → outcome_of m s a ≡ outcome_of n s b
  outcome_equal s (Shows v) (Shows w) x = ap shows (values_equal v w x 0 m.signals (omega arith)) ∙ ap (λ ss. shows (values_from w 0 ss)) signals
  outcome_equal s (Shows v) (Stopped b) x = absurd x
  outcome_equal s (Stopped a) (Shows w) x = absurd x
  outcome_equal s (Stopped a) (Stopped b) x =
      ap (λ c. outcome_of m s (Stopped c)) x
      ∙ ap (λ ss. stops (record { kind = b.kind; time = s.time; delta = s.delta; scope = scope_or_none (slice_get ss b.process); text = stop_text b.kind s.reports })) scopes

  outcome_at : (s t : Step) → s.time ≡ t.time → s.delta ≡ t.delta → s.reports ≡ t.reports → (b : Outcome) → outcome_of n s b ≡ outcome_of n t b
  outcome_at s t time delta reports (Shows v) = refl
  outcome_at s t time delta reports (Stopped b) = rw (time, delta, reports) refl

  step_equal : (s t : Step) → SameStep joined s t → step_of m s ≡ step_of n t
  step_equal s t x =
      let outcome : outcome_of m s s.outcome ≡ outcome_of n t t.outcome = outcome_equal s s.outcome t.outcome x.outcome ∙ outcome_at s t x.time x.delta x.reports t.outcome in
      same_step s.time t.time s.delta t.delta s.reports t.reports (outcome_of m s s.outcome) (outcome_of n t t.outcome) x.time x.delta x.reports outcome

  steps_equal : (ss ts : List Step) → AllZip (SameStep joined) ss ts → map (step_of m) ss ≡ map (step_of n) ts
  steps_equal [] [] x = refl
  steps_equal [] (t ∷ ts) x = absurd x
  steps_equal (s ∷ ss) [] x = absurd x
  steps_equal (s ∷ ss) (t ∷ ts) x = ap (λ r. r ∷ map (step_of m) ss) (step_equal s t x.0) ∙ ap (λ rs. step_of n t ∷ rs) (steps_equal ss ts x.1)

  end_equal : (a b : End) → SameEnd joined a b → end_of m a ≡ end_of n b
  end_equal Done Done x = refl
  end_equal Done Quiet x = absurd x
  end_equal Done Halted x = absurd x
  end_equal Done (TwoSources j) x = absurd x
  end_equal Quiet Done x = absurd x
  end_equal Quiet Quiet x = refl
  end_equal Quiet Halted x = absurd x
  end_equal Quiet (TwoSources j) x = absurd x
  end_equal Halted Done x = absurd x
  end_equal Halted Quiet x = absurd x
  end_equal Halted Halted x = refl
  end_equal Halted (TwoSources j) x = absurd x
  end_equal (TwoSources i) Done x = absurd x
  end_equal (TwoSources i) Quiet x = absurd x
  end_equal (TwoSources i) Halted x = absurd x
  end_equal (TwoSources i) (TwoSources j) x =
      ap (λ k. end_of m (TwoSources k)) (one i j x)
      ∙ ap (λ ss. not_elaborated (record { kind = TwoSourcesStop; time = 0; delta = 0; scope = declared_in (slice_get ss j); text = [] })) signals

  pub trace_equal : (t u : KernelTrace) → SameTrace joined t u → shown_trace m t ≡ shown_trace n u
  trace_equal t u x = let steps = steps_equal t.steps u.steps x.steps in let end = end_equal t.end u.end x.end in rw (steps, end) refl
