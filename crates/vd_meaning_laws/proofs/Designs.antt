-- Designs that are alike have one run and one trace.
use Rattle.std.proofs.Common.{◌≡◌, ℕ, zero, suc, List, [], ◌∷◌, Option, Some, None, map, refl, sym, ap, ◌∙◌, subst}
use Rattle.std.specs.Prelude.{slice_get}
use Rattle.std.specs.List.{AllZip}
use Rattle.vd_kernel.specs.declared.assignments.Source.{Source}
use Rattle.vd_kernel.specs.declared.assignments.Source.TheVariants.{Driver, Port}
use Rattle.vd_kernel.specs.Models.{Signal, Shape, Stimulus, signal_at}
use Rattle.vd_kernel.specs.Traces as kernel
use Rattle.vd_kernel.specs.Traces.{Shows, Stopped, Done, Quiet, Halted, TwoSources, with_two, trace}
use Rattle.vd_kernel.specs.Correspondence.{BothOrNone, SameSource, SameSignal, SameShape, SameStep, SameOutcome, SameEnd, SameRun}
use Rattle.vd_trees.specs.Traces.{shows, stops}
use Rattle.vd_meaning.specs.Building.{Placed, Made}
use Rattle.vd_meaning.specs.Elaborations.{stop_text, shape_of, model_of, process_scope, values_from, outcome_of, step_of, end_of, trace_of, printed, design_trace_text, Elaborates, Fails, NoTop, failed_trace}
use Rattle.vd_trees.specs.TraceText.{trace_text}
use Rattle.vd_meaning_laws.specs.Agreement.{Link, IsApart, AlikeRunning}
use Rattle.vd_meaning_laws.proofs.Running.{processes_run_alike}
use Rattle.vd_meaning_laws.specs.ElaborationAgreement.{AlikePlaced, AlikeMade}
use Rattle.vd_meaning_laws.specs.LawsOfElaboration.{DesignsRunAlike, DesignsHaveOneTrace, DesignsHaveOneText, ElaborationsHaveOneTrace}

abbrev Same : ℕ → ℕ → Type 0
Same i j = i ≡ j

-- ---- a shape is the same as itself

same_source : (s : Source) → SameSource Same s s
same_source (Driver d) = refl
same_source (Port i) = refl

same_sources : (ss : List Source) → AllZip (SameSource Same) ss ss
same_sources [] = tt
same_sources (s ∷ ss) = (same_source s, same_sources ss)

same_option : (x : Option ℕ) → BothOrNone Same x x
same_option None = tt
same_option (Some n) = refl

same_numbers : (ns : List ℕ) → AllZip Same ns ns
same_numbers [] = tt
same_numbers (n ∷ ns) = (refl, same_numbers ns)

same_signal : (s t : Signal) → s ≡ t → SameSignal Same s t
same_signal s t e =
    subst (λ u. SameSignal Same s u) e
    (record { initial = refl; is_resolved = refl; sources = same_sources s.sources; actual = same_option s.actual; is_out = refl; input = refl })

same_shape : (m : Shape) → SameShape Same m m
same_shape m =
    record {
      number = refl;
      signals = λ i j e. same_signal (signal_at m i) (signal_at m j) (λ k. signal_at m (e k));
      two = same_option (with_two 0 m.signals);
      driven = same_numbers m.driven;
      inputs = same_numbers m.inputs;
    }

module _ (l : Link) (numbers : IsApart l) where
  running_alike : (ps qs : List Placed) → AllZip (AlikePlaced l) ps qs → AllZip (AlikeRunning l) (map (λ p. p.running) ps) (map (λ p. p.running) qs)
  running_alike [] [] h = tt
  running_alike (p ∷ ps) (q ∷ qs) h = (h.0.running, running_alike ps qs h.1)
  running_alike _ _ h = absurd h

  scope_same : (ps qs : List Placed) → AllZip (AlikePlaced l) ps qs → (k : ℕ) → process_scope (slice_get qs k) ≡ process_scope (slice_get ps k)
  scope_same [] [] h k = refl
  scope_same (p ∷ ps) (q ∷ qs) h zero = h.0.scope
  scope_same (p ∷ ps) (q ∷ qs) h (suc k) = scope_same ps qs h.1 k
  scope_same _ _ h k = absurd h

  module _ (m n : Made) (h : AlikeMade l m n) where
    shapes_same : shape_of n ≡ shape_of m
    shapes_same = λ i. shape_of (record n { signals = h.signals i; sources = h.sources i; driven = h.driven i })

    run_alike : SameRun Same (model_of m) (model_of n)
    run_alike =
        processes_run_alike l numbers (shape_of m) (shape_of n) (subst (λ s. SameShape Same (shape_of m) s) (sym shapes_same) (same_shape (shape_of m))) _ _ (running_alike m.processes n.processes h.processes)

    -- ---- traces

    outcome_same : (s t : kernel.Step) → SameStep Same s t → (x y : kernel.Outcome) → SameOutcome Same x y → outcome_of n t y ≡ outcome_of m s x
    outcome_same s t e (Shows v) (Shows w) k = λ i. shows (values_from (λ j. sym (k j j refl) i) 0 (h.signals i))
    outcome_same s t e (Stopped a) (Stopped b) k =
        (λ i. outcome_of n (record t { time = sym e.time i; delta = sym e.delta i; reports = sym e.reports i }) (Stopped (sym k i)))
        ∙ (λ i. stops (record { kind = a.kind; time = s.time; delta = s.delta; scope = scope_same m.processes n.processes h.processes a.process i; text = stop_text a.kind s.reports }))
    outcome_same s t e (Shows v) (Stopped b) k = absurd k
    outcome_same s t e (Stopped a) (Shows w) k = absurd k

    step_same : (s t : kernel.Step) → SameStep Same s t → step_of n t ≡ step_of m s
    step_same s t e = λ i. record { time = sym e.time i; delta = sym e.delta i; reports = sym e.reports i; outcome = outcome_same s t e s.outcome t.outcome e.outcome i }

    steps_same : (ss ts : List kernel.Step) → AllZip (SameStep Same) ss ts → map (step_of n) ts ≡ map (step_of m) ss
    steps_same [] [] e = refl
    steps_same (s ∷ ss) (t ∷ ts) e = λ i. step_same s t e.0 i ∷ steps_same ss ts e.1 i
    steps_same _ _ e = absurd e

    end_same : (x y : kernel.End) → SameEnd Same x y → end_of n y ≡ end_of m x
    end_same Done Done e = refl
    end_same Quiet Quiet e = refl
    end_same Halted Halted e = refl
    end_same (TwoSources a) (TwoSources b) e = λ i. end_of (record n { signals = h.signals i }) (TwoSources (sym e i))
    end_same _ _ e = absurd e

    trace_same : (given : Stimulus) (cycles : ℕ) → trace_of n given cycles ≡ trace_of m given cycles
    trace_same given cycles =
        let t = run_alike.traces given given (λ i j e. ap given e) cycles in
        λ i. record { steps = steps_same _ _ t.steps i; end = end_same _ _ t.end i }

    text_same : (given : Stimulus) (cycles : ℕ) → design_trace_text n given cycles ≡ design_trace_text m given cycles
    text_same given cycles = λ i. trace_text (map (λ x. x.path) (h.signals i)) (map (λ x. printed x.of_type x.make.literals) (h.signals i)) (trace_same given cycles i)

pub all_runs : DesignsRunAlike
all_runs l numbers m n h = run_alike l numbers m n h

pub all_traces : DesignsHaveOneTrace
all_traces l numbers m n h given cycles = trace_same l numbers m n h given cycles

pub all_texts : DesignsHaveOneText
all_texts l numbers m n h given cycles = text_same l numbers m n h given cycles

pub top_traces : ElaborationsHaveOneTrace
top_traces l numbers (Elaborates m) (Elaborates n) h given cycles = λ i. Some (trace_same l numbers m n h given cycles i)
top_traces l numbers (Fails f) (Fails g) h given cycles = ap failed_trace h
top_traces l numbers NoTop NoTop h given cycles = refl
top_traces l numbers _ _ h given cycles = absurd h
