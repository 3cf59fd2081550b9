-- What a stimulus does where the outside may drive nothing doesn't matter.
use Rattle.std.proofs.Common.{◌≡◌, ℕ, zero, suc, ◌+◌, List, [], ◌∷◌, ◌++◌, length, Option, Some, None, map, refl, sym, ap, ap₂, ◌∙◌, subst}
use Rattle.std.specs.Prelude.{IsSome, if◌then◌else◌, ◌==◌}
use Rattle.std.specs.List.{AllByRecursion}
use mathlib.Core.Path.{fun_ext}
use Rattle.vd_values.specs.declared.scalar.Scalar.{Scalar}
use Rattle.vd_kernel.specs.declared.assignments.Transaction.{Transaction}
use Rattle.vd_kernel.specs.Drivers.{Driver, advanced}
use Rattle.vd_kernel.specs.Models.{View, Start, Shape, Model, Stimulus, signal_at}
use Rattle.vd_kernel.specs.Values.{from_outside, sources_of, source_value, value_from, driving_within, driving, through, effective_within, effective, shown}
use Rattle.vd_kernel.specs.Cycles.{State, Moment, first_view, next_view, before_change, first_driver, first_drivers, initialised, cycle, next_time, round, turn}
use Rattle.vd_kernel.specs.Traces.{at_next, moment_on, trace_from, unless_two, with_two, trace}
use Rattle.vd_kernel.specs.Correspondence.{SameStimulus, SameTrace, SameRun}
use Rattle.vd_kernel.specs.Stimuli.{IsInput, SameInputs, SameRunAtInputs}

-- what is given, where there is a driver for it
abbrev kept : Option ℕ → List Transaction → List Transaction
kept None g = []
kept (Some d) g = g

kept_some : (o : Option ℕ) → IsSome o → (g : List Transaction) → kept o g ≡ g
kept_some None h g = cc
kept_some (Some d) h g = refl

outside_kept : (o : Option ℕ) (g : List Transaction) → from_outside g o ≡ from_outside (kept o g) o
outside_kept None [] = refl
outside_kept None (t ∷ ts) = refl
outside_kept (Some d) g = refl

-- a stimulus that does nothing elsewhere
abbrev at_inputs : Shape → Stimulus → Stimulus
at_inputs m given i = kept (signal_at m i).input (given i)

-- Two stimuli that make the same sources and the same drivers

module _ (m : Shape) (a b : Stimulus) (sources : (i : ℕ) → from_outside (a i) (signal_at m i).input ≡ from_outside (b i) (signal_at m i).input) where
  one_driving_within : (ds : List Driver) (k : ℕ) → driving_within m a ds k ≡ driving_within m b ds k
  one_driving_within ds zero = refl
  one_driving_within ds (suc k) =
      fun_ext (λ i.
      ap (λ f. value_from (signal_at m i) (map (source_value ds f) (sources_of (signal_at m i) (a i)))) (one_driving_within ds k)
      ∙ ap (λ o. value_from (signal_at m i) (map (source_value ds (driving_within m b ds k)) ((signal_at m i).sources ++ o))) (sources i))

  one_driving : (ds : List Driver) → driving m a ds ≡ driving m b ds
  one_driving ds = one_driving_within ds (length m.signals)

  one_effective_within : (ds : List Driver) (k : ℕ) → effective_within m a ds k ≡ effective_within m b ds k
  one_effective_within ds zero = one_driving ds
  one_effective_within ds (suc k) =
      fun_ext (λ i.
      ap (λ f. through (signal_at m i).actual f (driving m a ds i)) (one_effective_within ds k)
      ∙ ap (λ f. through (signal_at m i).actual (effective_within m b ds k) (f i)) (one_driving ds))

  one_effective : (ds : List Driver) → effective m a ds ≡ effective m b ds
  one_effective ds = one_effective_within ds (length m.signals)

  one_shown : (ds : List Driver) → shown m a ds ≡ shown m b ds
  one_shown ds =
      fun_ext (λ i.
      ap (λ f. if (signal_at m i).is_out then f i else effective m a ds i) (one_driving ds)
      ∙ ap (λ f. if (signal_at m i).is_out then driving m b ds i else f i) (one_effective ds))

  one_first_view : (ds : List Driver) → first_view m a ds ≡ first_view m b ds
  one_first_view ds =
      let view = λ (e s : ℕ → Scalar). let v : View = record { time = 0; value = e; shown = s; before = λ i. None } in v in
      ap₂ view (one_effective ds) (one_shown ds)

  one_next_view : (now : ℕ) (ds : List Driver) (old : View) → next_view m a now ds old ≡ next_view m b now ds old
  one_next_view now ds old =
      let view = λ (e s : ℕ → Scalar).
      let v : View = record { time = now; value = e; shown = s; before = λ i. before_change (old.value i) (e i) (old.shown i) (s i) } in v in
      ap₂ view (one_effective ds) (one_shown ds)

module _ {P : Type 0} (m : Model P) (a b : Stimulus) (sources : (i : ℕ) → from_outside (a i) (signal_at m.shape i).input ≡ from_outside (b i) (signal_at m.shape i).input) (drivers : first_drivers m.shape a ≡ first_drivers m.shape b) where
  one_initialised : initialised m a ≡ initialised m b
  one_initialised =
      let moment = λ (ds : List Driver) (v : View).
      let x : Moment P = record { time = 0; delta = 0; view = v; round = round 0 (map (λ p. m.step p Start v) m.processes) ds } in x in
      ap (moment (first_drivers m.shape a)) (one_first_view m.shape a b sources (first_drivers m.shape a))
      ∙ ap (λ ds. moment ds (first_view m.shape b ds)) drivers

  one_cycle : (s : State P) (now : ℕ) → cycle m a s now ≡ cycle m b s now
  one_cycle s now =
      let ds = map (advanced now) s.drivers in
      let moment = λ (v : View).
      let x : Moment P = record { time = now; delta = if now == s.time then s.delta + 1 else 0; view = v; round = round 0 (map (turn m.step v) s.processes) ds } in x in
      ap moment (one_next_view m.shape a b sources now ds s.view)

  one_trace_from : (k : ℕ) (s : State P) → trace_from m a k s ≡ trace_from m b k s
  one_trace_from zero s = refl
  one_trace_from (suc k) s =
      ap (at_next (next_time s)) (fun_ext (λ now.
      ap (λ x. moment_on x (trace_from m a k)) (one_cycle s now)
      ∙ ap (moment_on (cycle m b s now)) (fun_ext (one_trace_from k))))

  one_trace : (k : ℕ) → trace m a k ≡ trace m b k
  one_trace k =
      ap (unless_two (with_two 0 m.shape.signals))
      (ap (λ x. moment_on x (trace_from m a k)) one_initialised ∙ ap (moment_on (initialised m b)) (fun_ext (one_trace_from k)))

-- A stimulus beside the one that does nothing elsewhere

module _ (m : Shape) (given : Stimulus) where
  kept_drivers : (is : List ℕ) → AllByRecursion (IsInput m) is → map (first_driver m given) is ≡ map (first_driver m (at_inputs m given)) is
  kept_drivers [] z = refl
  kept_drivers (i ∷ is) z =
      let e = kept_some (signal_at m i).input z.0 (given i) in let rest = kept_drivers is z.1 in cc

  drivers_kept : AllByRecursion (IsInput m) m.inputs → first_drivers m given ≡ first_drivers m (at_inputs m given)
  drivers_kept h = ap (λ ds. map (first_driver m (λ i. [])) m.driven ++ ds) (kept_drivers m.inputs h)

trace_kept : {P : Type 0} (m : Model P) (given : Stimulus) → AllByRecursion (IsInput m.shape) m.shape.inputs → (k : ℕ) → trace m given k ≡ trace m (at_inputs m.shape given) k
trace_kept m given h =
    one_trace m given (at_inputs m.shape given) (λ i. outside_kept (signal_at m.shape i).input (given i)) (drivers_kept m.shape given h)

same_kept : (o q : Option ℕ) → o ≡ q → (g h : List Transaction) → (IsSome o → g ≡ h) → kept o g ≡ kept q h
same_kept None None e g h x = refl
same_kept None (Some d) e g h x = cc
same_kept (Some d) None e g h x = cc
same_kept (Some d) (Some c) e g h x = x refl

-- designs with the same run have it whatever the outside does elsewhere
pub same_run_at_inputs : {P Q : Type 0} (joined : ℕ → ℕ → Type 0) (m : Model P) (n : Model Q) → SameInputs joined m.shape n.shape → SameRun joined m n → SameRunAtInputs joined m n
same_run_at_inputs joined m n inputs run =
    record {
      traces = λ given other same k.
          let stimulus : SameStimulus joined (at_inputs m.shape given) (at_inputs n.shape other) = λ i j e. same_kept _ _ (inputs.driver i j e) (given i) (other j) (same i j e) in
          subst (λ t. SameTrace joined t (trace n other k)) (sym (trace_kept m given inputs.first k))
          (subst (SameTrace joined (trace m (at_inputs m.shape given) k)) (sym (trace_kept n other inputs.second k)) (run.traces (at_inputs m.shape given) (at_inputs n.shape other) stimulus k));
    }
