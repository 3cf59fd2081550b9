-- A trace goes on from a step that a simulation has come through.
use Rattle.std.proofs.Common.{◌≡◌, ◌≢◌, Option, Some, None, Result, Ok, Err, refl, sym, ap, ap₂, ◌∙◌, subst}
use Rattle.vd_trees.specs.declared.traces.Cycle.{Cycle}
use Rattle.vd_trees.specs.declared.traces.Cycle.TheVariants.{Next, Quiet}
use Rattle.vd_kernel.specs.Cycles.{State, Moment, state_after}
use Rattle.vd_kernel.specs.Traces.{Step, Trace, outcome, step_of, led_by, unless_stopped, moment_on}
use Rattle.vd_simulation.specs.declared.round.ProcessStop.{ProcessStop}
use Rattle.vd_simulation.specs.declared.ends.SimulationEnd.{SimulationEnd}
use Rattle.vd_simulation.specs.declared.ends.SimulationEnd.TheVariants.{Stop, Memory}
use Rattle.vd_simulation.specs.Turns.{view_of}
use Rattle.vd_simulation.specs.Rounds.{optional_stop}
use Rattle.vd_simulation.specs.Simulations.{Simulating, state_of, stop_in, end_of, IsMoment, HasStepped}
use Rattle.vd_simulation.specs.TracedSteps.{IsTraceOn}

module _ {P S : Type 0} (state : P → S) (s : Simulating P) (x : Moment S) where
  abbrev step_by : Option ProcessStop → Step
  step_by stop = record { time = s.time; delta = s.delta; reports = s.reports; outcome = outcome (optional_stop stop) (view_of s.seen).shown }

  same_step : (stop : Option ProcessStop) → IsMoment state stop s x → step_of x ≡ step_by stop
  same_step stop is =
      λ k. record {
        time = sym is.time_is k;
        delta = sym is.delta_is k;
        reports = sym is.round_is.reports_are k;
        outcome = outcome (sym is.round_is.stop_is k) (sym is.view_is k).shown;
      }

  -- where nothing stopped, the state is the one that the step leaves
  pub same_state : IsMoment state None s x → state_after x ≡ state_of state s
  same_state is =
      λ k. record {
        time = sym is.time_is k;
        delta = sym is.delta_is k;
        drivers = sym is.round_is.drivers_are k;
        view = sym is.view_is k;
        processes = sym is.round_is.processes_are k;
      }

  module _ (go : State S → Trace) where
    abbrev from_step_by : Option ProcessStop → Trace
    from_step_by stop = led_by (step_by stop) (unless_stopped (optional_stop stop) (go (state_of state s)))

    pub moment_traced : (stop : Option ProcessStop) → IsMoment state stop s x → moment_on x go ≡ from_step_by stop
    moment_traced None is =
        ap₂ led_by (same_step None is)
        (ap₂ (λ o t. unless_stopped o (go t)) (sym is.round_is.stop_is) (same_state is))
    moment_traced (Some stop) is =
        ap₂ led_by (same_step (Some stop) is) (ap (λ o. unless_stopped o (go (state_after x))) (sym is.round_is.stop_is))

    traced : (answer : Result Cycle SimulationEnd) → answer ≢ Ok Quiet → end_of answer ≡ s.end → HasStepped state (end_of answer) s x → IsTraceOn state answer s go (moment_on x go)
    traced (Ok Quiet) next end is = absurd (next refl)
    traced (Ok Next) next end is = moment_traced None is ∙ ap (λ e. from_step_by (stop_in e)) end
    traced (Err (Stop stop)) next end is = moment_traced (Some stop) is ∙ ap (λ e. from_step_by (stop_in e)) end
    traced (Err Memory) next end is = tt

    pub answer_traced : (answer : Result Cycle SimulationEnd) → answer ≢ Ok Quiet → end_of answer ≡ s.end → HasStepped state s.end s x → IsTraceOn state answer s go (moment_on x go)
    answer_traced answer next end is = traced answer next end (subst (λ e. HasStepped state e s x) (sym end) is)
