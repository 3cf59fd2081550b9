-- Designs of the same signals with the same run, by maps that join each signal with itself alone.
use Rattle.std.proofs.Common.{◌≡◌, ◌<◌, ℕ, List, [], length, Option, Some, refl, sym, ap, ◌∙◌, subst}
use Rattle.std.specs.Prelude.{slice_get}
use Rattle.vd_kernel.specs.Models.{Stimulus, signal_at}
use Rattle.vd_kernel.specs.Stimuli.{SameInputs, SameAtInputs, SameRunAtInputs}
use Rattle.vd_kernel.specs.Traces.{Outcome, Shows, Stopped, Step, End, Done, Quiet, Halted, TwoSources}
use Rattle.vd_kernel.specs.Correspondence.{SameOutcome, SameStep, SameEnd}
use Rattle.vd_kernel.proofs.ListPairs.{AllZip-itself, AllZip-implies}
use Rattle.vd_kernel.proofs.OwnRuns.{corresponds_with_itself}
use Rattle.vd_kernel.proofs.SameRuns.{same_run}
use Rattle.vd_kernel.proofs.AtInputs.{same_run_at_inputs}
use Rattle.vd_meaning.specs.Building.{ScalarObject, Placed, Made}
use Rattle.vd_meaning.specs.Elaborations.{shape_of, model_of, signal_scope}
use Rattle.vd_joins.specs.Joins.{Joining, pass_with}
use Rattle.vd_maps.specs.SameRuns.{Joined, Joins, ScopesJoin}
use Rattle.vd_maps.specs.Laws.{JoinsItself, SameDesignHasSameRun, DistinctPathsJoinThemselves, AreSameByNumber, SameNumbersHaveSameRun}
use Rattle.vd_maps.proofs.Inputs.{inputs_are_inputs, signal_there, shape_count, is_below, EndsBelow, trace_below}
use Rattle.vd_maps.proofs.Staying.{equal_paths, equal_scopes}

abbrev Same : ℕ → ℕ → Type 0
Same i j = i ≡ j

one_object : (x y : ScalarObject) (o : Option ScalarObject) → o ≡ Some x → o ≡ Some y → x ≡ y
one_object x y o e f = cc

module _ (by : Joining) (m n : Made) (own : JoinsItself by m) (same : AreSameByNumber m n) where
  abbrev Own : ℕ → ℕ → Type 0
  Own = Joins by m n

  own_each : (i j : ℕ) → i ≡ j → i < length m.signals → Own i j
  own_each i j e h = subst (λ k. Own i k) e (subst (λ ns. Joined by m.signals ns i i) same.signals (own.each i h))

  own_only : (i j : ℕ) → Own i j → i ≡ j
  own_only i j e = own.only i j (subst (λ ns. Joined by m.signals ns i j) (sym same.signals) e)

  inputs_same : SameInputs Same (shape_of m) (shape_of n)
  inputs_same =
      record {
        first = inputs_are_inputs m;
        second = inputs_are_inputs n;
        driver = λ i j e. same.inputs i ∙ ap (λ k. (signal_at (shape_of n) k).input) e;
      }

  run_same : SameRunAtInputs Same (model_of m) (model_of n)
  run_same = same_run_at_inputs Same (model_of m) (model_of n) inputs_same same.run

  outcome_own : (a b : Outcome) → SameOutcome Same a b → SameOutcome Own a b
  outcome_own (Shows f) (Shows g) x = λ i j e. x i j (own_only i j e)
  outcome_own (Shows f) (Stopped b) x = absurd x
  outcome_own (Stopped a) (Shows g) x = absurd x
  outcome_own (Stopped a) (Stopped b) x = x

  step_own : (s t : Step) → SameStep Same s t → SameStep Own s t
  step_own s t x =
      record { time = x.time; delta = x.delta; reports = x.reports; outcome = outcome_own s.outcome t.outcome x.outcome }

  end_own : (a b : End) → EndsBelow (length m.signals) a → SameEnd Same a b → SameEnd Own a b
  end_own Done Done h x = tt
  end_own Quiet Quiet h x = tt
  end_own Halted Halted h x = tt
  end_own (TwoSources i) (TwoSources j) h x = own_each i j x h
  end_own _ _ h x = absurd x

  stimulus_own : (given other : Stimulus) → SameAtInputs Own (shape_of m) given other → SameAtInputs Same (shape_of m) given other
  stimulus_own given other equal i j e h = equal i j (own_each i j e (is_below m i h)) h

  run_own : SameRunAtInputs Own (model_of m) (model_of n)
  run_own =
      record {
        traces = λ given other equal cycles.
            let t = run_same.traces given other (stimulus_own given other equal) cycles in
            record {
              steps = AllZip-implies _ _ step_own _ _ t.steps;
              end = end_own _ _ (trace_below _ (model_of m) given (shape_count m) cycles) t.end;
            };
      }

  declared_own : (i j : ℕ) → (x : Own i j) → ScopesJoin by (signal_scope (Some x.left)) (signal_scope (Some x.right))
  declared_own i j x =
      let at_j : slice_get m.signals i ≡ Some x.right = ap (slice_get m.signals) (own_only i j x) ∙ ap (λ ns. slice_get ns j) same.signals ∙ x.right_is in
      let one : x.left ≡ x.right = one_object x.left x.right (slice_get m.signals i) x.left_is at_j in
      subst (λ o. ScopesJoin by (signal_scope (Some x.left)) (signal_scope (Some o))) one (own.scopes (signal_scope (Some x.left)))

  place_own : (p q : Placed) → p.scope ≡ q.scope → ScopesJoin by p.scope q.scope
  place_own p q e = subst (λ s. ScopesJoin by p.scope s) e (own.scopes p.scope)

pub same_numbers : SameNumbersHaveSameRun
same_numbers by m n own same =
    record {
      run = run_own by m n own same;
      scopes =
          AllZip-implies (λ (p q : Placed). p.scope ≡ q.scope) (λ (p q : Placed). ScopesJoin by p.scope q.scope) (place_own by m n own same) m.processes n.processes
          same.scopes;
      declared = declared_own by m n own same;
    }

-- ---- a design and itself

itself : (m : Made) → AreSameByNumber m m
itself m =
    record {
      run = same_run Same (λ p q. p ≡ q) (model_of m) (model_of m) (corresponds_with_itself (model_of m));
      signals = refl;
      inputs = λ i. refl;
      scopes = AllZip-itself (λ (p q : Placed). p.scope ≡ q.scope) (λ p. refl) m.processes;
    }

pub same_design : SameDesignHasSameRun
same_design by m own = same_numbers by m m own (itself m)

-- ---- distinct paths

own_signal : (ss : List ScalarObject) (i : ℕ) → i < length ss → Joined (pass_with []) ss ss i i
own_signal ss i h =
    let x = signal_there ss i h in
    record { left = x.0; right = x.0; left_is = x.1; right_is = x.1; join = (equal_paths x.0.path x.0.path).1 refl }

pub distinct_paths : DistinctPathsJoinThemselves
distinct_paths m d =
    record {
      each = own_signal m.signals;
      only = λ i j x. d.distinct i j x.left x.right x.left_is x.right_is ((equal_paths x.left.path x.right.path).0 x.join);
      scopes = λ s. (equal_scopes s s).1 refl;
    }
