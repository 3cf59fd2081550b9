-- The text of a trace, step by step.
use Rattle.std.proofs.Common.{◌≡◌, ℕ, zero, suc, ◌+◌, true, List, [], ◌∷◌, ◌++◌, length, Option, Some, None, refl, ap, ◌∙◌, append_assoc}
use Rattle.std.proofs.lemmas.List.{append-nil}
use Rattle.std.specs.Prelude.{replicate}
use Rattle.vd_values.specs.declared.scalar.Scalar.{Scalar}
use Rattle.vd_trees.specs.declared.traces.Report.{Report}
use Rattle.vd_trees.specs.declared.traces.Stop.{Stop}
use Rattle.vd_trees.specs.Traces.{shows, stops, Step}
use Rattle.vd_trees.specs.TraceText.{step_lines}
use Rattle.vd_kernel.specs.Cycles.{State, Moment, ProcessStop, state_after}
use Rattle.vd_kernel.specs.Traces.{Trace as KernelTrace, step_of as kernel_step, moment_on}
use Rattle.vd_first_elaboration.specs.Processes.{Process}
use Rattle.vd_first_elaboration.specs.Signals.{ScalarSignal}
use Rattle.vd_first_elaboration.specs.Elaboration.{Elaborated}
use Rattle.vd_first_elaboration.specs.Traces.{paths_of, types_of, std_ulogic, values_from, outcome_of, end_of}
use Rattle.vd_first_tracing.specs.Tracings.{ends_in_stop}
use Rattle.vd_first_tracing.specs.Printing.{values_of, text_from}

pub values_counted : (f : ℕ → Scalar) (k : ℕ) (ss : List ScalarSignal) → values_from f k ss ≡ values_of f k (length ss)
values_counted f k [] = refl
values_counted f k (s ∷ ss) = ap (λ vs. f k ∷ vs) (values_counted f (suc k) ss)

pub values_same : (f g : ℕ → Scalar) → ((i : ℕ) → f i ≡ g i) → (k n : ℕ) → values_of f k n ≡ values_of g k n
values_same f g same k zero = refl
values_same f g same k (suc n) = ap (λ v. v ∷ values_of f (suc k) n) (same k) ∙ ap (λ vs. g k ∷ vs) (values_same f g same (suc k) n)

types_counted : (ss : List ScalarSignal) → (Rattle.std.specs.Prelude.map (λ (s : ScalarSignal). std_ulogic) ss) ≡ replicate (length ss) std_ulogic
types_counted [] = refl
types_counted (s ∷ ss) = ap (λ ts. std_ulogic ∷ ts) (types_counted ss)

pub types_are : (e : Elaborated) → types_of e ≡ replicate (length e.signals) std_ulogic
types_are e = types_counted e.signals

abbrev pub shown_at : ℕ → ℕ → List Report → List Scalar → Step
shown_at time delta reports values = record { time = time; delta = delta; reports = reports; outcome = shows values }

abbrev pub stopped_at : ℕ → ℕ → List Report → Stop → Step
stopped_at time delta reports stop = record { time = time; delta = delta; reports = reports; outcome = stops stop }

module _ (e : Elaborated) (number : ℕ) (earlier : List Scalar) (go : State Process → KernelTrace) where
  moment_by : (x : Moment Process) (stop : Option ProcessStop) → x.round.stop ≡ stop → stop ≡ None
      → text_from e number earlier (moment_on x go)
      ≡ step_lines (paths_of e) (types_of e) number earlier (shown_at x.time x.delta x.round.reports (values_from x.view.shown 0 e.signals))
      ++ text_from e (number + 1) (values_from x.view.shown 0 e.signals) (go (state_after x))
  moment_by x None is-stop none = rw is-stop (append_assoc (step_lines (paths_of e) (types_of e) number earlier (shown_at x.time x.delta x.round.reports (values_from x.view.shown 0 e.signals))) _ _)
  moment_by x (Some s) is-stop none = cc

  -- a step that shows, and what goes on behind it
  pub moment_shown : (x : Moment Process) → x.round.stop ≡ None
      → text_from e number earlier (moment_on x go)
      ≡ step_lines (paths_of e) (types_of e) number earlier (shown_at x.time x.delta x.round.reports (values_from x.view.shown 0 e.signals))
      ++ text_from e (number + 1) (values_from x.view.shown 0 e.signals) (go (state_after x))
  moment_shown x none = moment_by x None none refl

  pub moment_end : (x : Moment Process) → x.round.stop ≡ None → (moment_on x go).end ≡ (go (state_after x)).end
  moment_end x none = rw none refl

  -- a step that stops, behind which nothing goes on
  stopped_by : (x : Moment Process) (s : Option ProcessStop) → x.round.stop ≡ s → (stop : Stop) → outcome_of e (kernel_step x) (kernel_step x).outcome ≡ stops stop
      → (text_from e number earlier (moment_on x go) ≡ step_lines (paths_of e) (types_of e) number earlier (stopped_at x.time x.delta x.round.reports stop))
      × (ends_in_stop (end_of e (moment_on x go).end) ≡ true)
  stopped_by x None is-stop stop told = let wrong : shows (values_from x.view.shown 0 e.signals) ≡ stops stop = rw is-stop at told in absurd cc
  stopped_by x (Some s) is-stop stop told = (
    rw told (rw is-stop (append-nil _ ∙ append-nil _)),
    rw is-stop refl,
  )

  pub moment_stopped : (x : Moment Process) (stop : Stop) → outcome_of e (kernel_step x) (kernel_step x).outcome ≡ stops stop
      → (text_from e number earlier (moment_on x go) ≡ step_lines (paths_of e) (types_of e) number earlier (stopped_at x.time x.delta x.round.reports stop))
      × (ends_in_stop (end_of e (moment_on x go).end) ≡ true)
  moment_stopped x stop told = stopped_by x x.round.stop refl stop told
