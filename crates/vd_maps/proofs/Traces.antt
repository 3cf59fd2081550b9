-- Designs with the same run have the same traces.
use Rattle.std.proofs.Common.{◌≡◌, ℕ, zero, suc, ◌+◌, List, [], ◌∷◌, map, Some, refl, sym, ap, ◌∙◌, subst, arith}
use Rattle.std.specs.Prelude.{slice_get}
use Rattle.std.specs.List.{AllZip}
use Rattle.vd_values.specs.declared.scalar.Scalar.{Scalar}
use Rattle.vd_kernel.specs.Traces.{Outcome, Shows, Stopped, Step, End, Done, Quiet, Halted, TwoSources}
use Rattle.vd_kernel.specs.Correspondence.{SameOutcome, SameStep, SameEnd}
use Rattle.vd_meaning.specs.Building.{ScalarObject, Placed, Made}
use Rattle.vd_meaning.specs.Elaborations.{stop_text, process_scope, signal_scope, values_from, outcome_of, step_of, end_of}
use Rattle.vd_joins.specs.Joins.{Joining}
use Rattle.vd_maps.specs.SameRuns.{Joins, ScopesJoin, IsSameRun}
use Rattle.vd_maps.specs.SameTraces.{SameOutcomes, SameSteps, SameEnds}
use Rattle.vd_maps.specs.Laws.{RunsGiveTraces}

-- the value of a signal in the list of all
value_at : (v : ℕ → Scalar) (k : ℕ) (ss : List ScalarObject) (i : ℕ) (s : ScalarObject) → slice_get ss i ≡ Some s → (n : ℕ) → n ≡ k + i → slice_get (values_from v k ss) i ≡ Some (v n)
value_at v k [] i s e n at = cc
value_at v k (x ∷ ss) zero s e n at = let same : n ≡ k = omega arith in ap (λ j. Some (v j)) (sym same)
value_at v k (x ∷ ss) (suc i) s e n at = value_at v (suc k) ss i s e n (omega arith)

-- the scopes of the processes at one place join
scope_at : (by : Joining) (ps qs : List Placed) → AllZip (λ (p q : Placed). ScopesJoin by p.scope q.scope) ps qs → (k : ℕ) → ScopesJoin by (process_scope (slice_get ps k)) (process_scope (slice_get qs k))
scope_at by [] [] z k = refl
scope_at by [] (q ∷ qs) z k = absurd z
scope_at by (p ∷ ps) [] z k = absurd z
scope_at by (p ∷ ps) (q ∷ qs) z zero = z.0
scope_at by (p ∷ ps) (q ∷ qs) z (suc k) = scope_at by ps qs z.1 k

module _ (by : Joining) (m n : Made) (same : IsSameRun by m n) where
  abbrev joined : ℕ → ℕ → Type 0
  joined = Joins by m n

  outcome_same : (s t : Step) → s.time ≡ t.time → s.delta ≡ t.delta → s.reports ≡ t.reports → (a b : Outcome) → SameOutcome joined a b → SameOutcomes by joined (outcome_of m s a) (outcome_of n t b)
  outcome_same s t time delta reports (Shows v) (Shows w) x = λ i j e.
      value_at v 0 m.signals i e.left e.left_is i (omega arith) ∙ ap Some (x i j e) ∙ sym (value_at w 0 n.signals j e.right e.right_is j (omega arith))
  outcome_same s t time delta reports (Shows v) (Stopped b) x = absurd x
  outcome_same s t time delta reports (Stopped a) (Shows w) x = absurd x
  outcome_same s t time delta reports (Stopped a) (Stopped b) x =
      record {
        kind = ap (λ p. p.kind) x;
        time = time;
        delta = delta;
        scope = subst (λ p. ScopesJoin by (process_scope (slice_get m.processes a.process)) (process_scope (slice_get n.processes p.process))) x (scope_at by m.processes n.processes same.scopes a.process);
        text = ap (λ p. stop_text p.kind s.reports) x ∙ ap (stop_text b.kind) reports;
      }

  step_same : (s t : Step) → SameStep joined s t → SameSteps by joined (step_of m s) (step_of n t)
  step_same s t x =
      record { time = x.time; delta = x.delta; reports = x.reports; outcome = outcome_same s t x.time x.delta x.reports s.outcome t.outcome x.outcome }

  steps_same : (ss ts : List Step) → AllZip (SameStep joined) ss ts → AllZip (SameSteps by joined) (map (step_of m) ss) (map (step_of n) ts)
  steps_same [] [] x = tt
  steps_same [] (t ∷ ts) x = absurd x
  steps_same (s ∷ ss) [] x = absurd x
  steps_same (s ∷ ss) (t ∷ ts) x = (step_same s t x.0, steps_same ss ts x.1)

  two_same : (i j : ℕ) → joined i j → ScopesJoin by (signal_scope (slice_get m.signals i)) (signal_scope (slice_get n.signals j))
  two_same i j x =
      subst (λ o. ScopesJoin by (signal_scope o) (signal_scope (slice_get n.signals j))) (sym x.left_is)
      (subst (λ o. ScopesJoin by (signal_scope (Some x.left)) (signal_scope o)) (sym x.right_is) (same.declared i j x))

  end_same : (a b : End) → SameEnd joined a b → SameEnds by (end_of m a) (end_of n b)
  end_same Done Done x = tt
  end_same Done Quiet x = absurd x
  end_same Done Halted x = absurd x
  end_same Done (TwoSources j) x = absurd x
  end_same Quiet Done x = absurd x
  end_same Quiet Quiet x = tt
  end_same Quiet Halted x = absurd x
  end_same Quiet (TwoSources j) x = absurd x
  end_same Halted Done x = absurd x
  end_same Halted Quiet x = absurd x
  end_same Halted Halted x = tt
  end_same Halted (TwoSources j) x = absurd x
  end_same (TwoSources i) Done x = absurd x
  end_same (TwoSources i) Quiet x = absurd x
  end_same (TwoSources i) Halted x = absurd x
  end_same (TwoSources i) (TwoSources j) x = record { kind = refl; time = refl; delta = refl; scope = two_same i j x; text = refl }

pub runs_give_traces : RunsGiveTraces
runs_give_traces by m n same =
    record {
      traces = λ given other equal cycles.
          let t = same.run.traces given other equal cycles in
          record { steps = steps_same by m n same _ _ t.steps; end = end_same by m n same _ _ t.end };
    }
