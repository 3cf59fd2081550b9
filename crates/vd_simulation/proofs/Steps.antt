-- What the code keeps after a step is what the definitions make of that step.
use Rattle.std.proofs.Common.{◌≡◌, ℕ, ◌+◌, true, false, List, [], ◌∷◌, Option, map, refl, sym, ap, ap₂, ◌∙◌, subst}
use Rattle.std.specs.Prelude.{◌==◌, if◌then◌else◌}
use Rattle.vd_kernel.specs.Drivers.{Driver, advanced}
use Rattle.vd_kernel.specs.Models.{View, Cause, Start, Turn, Shape}
use Rattle.vd_kernel.specs.Cycles.{first_view, next_view, first_drivers, round, turn, initialised, cycle}
use Rattle.vd_kernel.specs.SignalValues.{nothing_given}
use Rattle.vd_simulation.specs.declared.round.Waiting.{Waiting}
use Rattle.vd_simulation.specs.declared.round.ProcessStop.{ProcessStop}
use Rattle.vd_simulation.specs.Turns.{view_of}
use Rattle.vd_simulation.specs.Rounds.{paused, begun, turn_in, IsRound}
use Rattle.vd_simulation.specs.Simulations.{Simulating, state_of, modelled, IsMoment}

first_turns : {S : Type 0} (step : S → Cause → View → Turn S) (v : View) (states : List S) → map (turn_in true step v) (map begun states) ≡ map (λ p. step p Start v) states
first_turns step v [] = refl
first_turns step v (p ∷ ps) = ap (λ ts. step p Start v ∷ ts) (first_turns step v ps)

module _ {P S : Type 0} (state : P → S) (step : S → Cause → View → Turn S) (m : Shape) (stop : Option ProcessStop) (new : Simulating P) (v : View) (ds : List Driver) (before after : List (Waiting P)) (kept : new.processes ≡ after) (seen : view_of new.seen ≡ v) where
  pub begins : (states : List S) → map (paused state) before ≡ map begun states → ds ≡ first_drivers m nothing_given → v ≡ first_view m nothing_given ds → new.time ≡ 0 → new.delta ≡ 0
      → IsRound stop new.net.drivers new.reports (map (paused state) after) (round 0 (map (turn_in true step v) (map (paused state) before)) ds)
      → IsMoment state stop new (initialised (modelled m step states) nothing_given)
  begins states starts drivers view time delta is =
      let first = first_drivers m nothing_given in
      let view_is : v ≡ first_view m nothing_given first = view ∙ ap (first_view m nothing_given) drivers in
      let rounds =
      ap (λ ps. round 0 (map (turn_in true step v) ps) ds) starts
      ∙ ap (λ ts. round 0 ts ds) (first_turns step v states)
      ∙ ap₂ (λ w es. round 0 (map (λ p. step p Start w) states) es) view_is drivers in
      record {
        time_is = time;
        delta_is = delta;
        view_is = seen ∙ view_is;
        round_is = subst (λ ws. IsRound stop new.net.drivers new.reports (map (paused state) ws) (initialised (modelled m step states) nothing_given).round) (sym kept)
            (subst (IsRound stop new.net.drivers new.reports (map (paused state) after)) rounds is);
      }

  pub cycles : (old : Simulating P) (now : ℕ) → before ≡ old.processes → ds ≡ map (advanced now) old.net.drivers → v ≡ next_view m nothing_given now ds (view_of old.seen) → new.time ≡ now → new.delta ≡ (if now == old.time then old.delta + 1 else 0)
      → IsRound stop new.net.drivers new.reports (map (paused state) after) (round 0 (map (turn_in false step v) (map (paused state) before)) ds)
      → IsMoment state stop new (cycle (modelled m step []) nothing_given (state_of state old) now)
  cycles old now starts drivers view time delta is =
      let next = map (advanced now) old.net.drivers in
      let view_is : v ≡ next_view m nothing_given now next (view_of old.seen) = view ∙ ap (λ es. next_view m nothing_given now es (view_of old.seen)) drivers in
      let rounds =
      ap (λ ws. round 0 (map (turn_in false step v) (map (paused state) ws)) ds) starts
      ∙ ap₂ (λ w es. round 0 (map (turn step w) (map (paused state) old.processes)) es) view_is drivers in
      record {
        time_is = time;
        delta_is = delta;
        view_is = seen ∙ view_is;
        round_is = subst (λ ws. IsRound stop new.net.drivers new.reports (map (paused state) ws) (cycle (modelled m step []) nothing_given (state_of state old) now).round) (sym kept)
            (subst (IsRound stop new.net.drivers new.reports (map (paused state) after)) rounds is);
      }
