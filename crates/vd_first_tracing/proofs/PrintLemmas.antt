-- Printing a run keeps what is printed a front of its trace's text.
use Rattle.std.proofs.Common.{◌≡◌, ◌<◌, ◌≤◌, ℕ, zero, suc, ◌+◌, Bool, true, false, List, [], ◌∷◌, ◌++◌, length, Option, Some, None, Result, Ok, Err, refl, sym, ap, ◌∙◌, subst, append_assoc, arith}
use Rattle.std.proofs.lemmas.List.{length-map, length-append}
use Rattle.vd_values.specs.declared.scalar.Scalar.{Scalar}
use Rattle.vd_trees.specs.declared.paths.Path.{Path}
use Rattle.vd_trees.specs.declared.traces.Report.{Report}
use Rattle.vd_trees.specs.declared.traces.Stop.{Stop}
use Rattle.vd_trees.specs.declared.traces.Cycle.TheVariants.{Next, Quiet}
use Rattle.vd_trees.specs.declared.traces.CycleEnd.TheVariants as ends
use Rattle.vd_trees.specs.Traces.{quiet}
use Rattle.vd_trees.specs.TraceText.{step_lines, end_text}
use Rattle.vd_trees.specs.ValueTexts.{ScalarType}
use Rattle.vd_kernel.specs.Cycles.{State, Moment, next_time, initialised, cycle, state_after}
use Rattle.vd_kernel.specs.Traces.{Trace as KernelTrace, trace_from, at_next, moment_on, step_of as kernel_step, unless_two, trace}
use Rattle.vd_kernel.specs.SignalValues.{nothing_given}
use Rattle.vd_simulation.specs.Simulations.{state_of}
use Rattle.vd_first_elaboration.specs.Processes.{Process}
use Rattle.vd_first_elaboration.specs.Signals.{ScalarSignal}
use Rattle.vd_first_elaboration.specs.Elaboration.{Elaborated}
use Rattle.vd_first_elaboration.specs.Traces.{paths_of, types_of, values_from, end_of}
use Rattle.vd_first_processes.specs.Resolved.{itself}
use Rattle.vd_first_runs.specs.Runs.{Running, HasCome, IsStarted, AnswersCycle}
use Rattle.vd_first_runs.proofs.RunLemmas.{rests, time_come, delta_come, reports_come, shown_come, next_time_at}
use Rattle.vd_first_runs.specs.Elaborations.{limit_of}
use Rattle.vd_first_accept.specs.declared.acceptance.ConvertEnd.{ConvertEnd}
use Rattle.vd_first_accept.specs.declared.acceptance.ConvertEnd.TheVariants as answers
use Rattle.vd_first_tracing.specs.declared.printing.Traced.{Traced}
use Rattle.vd_trace_text.specs.Steps.{shown_step, stopped_step}
use Rattle.vd_first_tracing.specs.Tracings.{output_limit, run_text, ends_in_stop}
use Rattle.vd_first_tracing.specs.Printing.{values_of, text_from, end_before, HasPrinted, HasPrintedAll, RunsDesign, Finishes}
use Rattle.vd_first_tracing.proofs.TextLemmas.{values_counted, values_same, moment_shown, moment_end, moment_stopped}

values_one_more : (f : ℕ → Scalar) (k n : ℕ) → values_of f k (suc n) ≡ values_of f k n ++ f (k + n) ∷ []
values_one_more f k zero = ap (λ i. f i ∷ []) (omega arith)
values_one_more f k (suc n) = ap (λ vs. f k ∷ vs) (values_one_more f (suc k) n ∙ ap (λ i. values_of f (suc k) n ++ f i ∷ []) (omega arith))

-- one value more
pub values_added : (f : ℕ → Scalar) (n m : ℕ) → m ≡ suc n → values_of f 0 m ≡ values_of f 0 n ++ f n ∷ []
values_added f n m is = ap (values_of f 0) is ∙ values_one_more f 0 n ∙ ap (λ i. values_of f 0 n ++ f i ∷ []) (omega arith)

-- what a run shows, as the code lists it
abbrev pub shown_by : Running → List Scalar
shown_by run = values_of (state_of itself run.simulation).view.shown 0 (length run.paths)

-- ---- the step that a run has come through

module _ (e : Elaborated) (run : Running) (x : Moment Process) (come : HasCome e run x) where
  shown_is : shown_by run ≡ values_from x.view.shown 0 e.signals
  shown_is =
      values_same (state_of itself run.simulation).view.shown x.view.shown (shown_come e run x come) 0 (length run.paths)
      ∙ ap (values_of x.view.shown 0) (ap length come.run_of.paths_are ∙ length-map e.signals (λ (s : ScalarSignal). s.path))
      ∙ sym (values_counted x.view.shown 0 e.signals)

  same_lines : (ps qs : List Path) (ts us : List ScalarType) (number : ℕ) (earlier : List Scalar) (t u d f : ℕ) (rs ss : List Report) (vs ws : List Scalar)
      → ps ≡ qs → ts ≡ us → t ≡ u → d ≡ f → rs ≡ ss → vs ≡ ws
      → step_lines ps ts number earlier (shown_step t d rs vs) ≡ step_lines qs us number earlier (shown_step u f ss ws)
  same_lines ps qs ts us number earlier t u d f rs ss vs ws a b c g h i = rw (a, b, c, g, h, i) refl

  pub lines_shown : (types : List ScalarType) → types ≡ types_of e → (number : ℕ) (earlier : List Scalar)
      → step_lines run.paths types number earlier (shown_step run.simulation.time run.simulation.delta run.simulation.reports (shown_by run))
      ≡ step_lines (paths_of e) (types_of e) number earlier (shown_step x.time x.delta x.round.reports (values_from x.view.shown 0 e.signals))
  lines_shown types same number earlier =
      same_lines run.paths (paths_of e) types (types_of e) number earlier _ _ _ _ _ _ _ _ come.run_of.paths_are same (time_come e run x come) (delta_come e run x come) (reports_come e run x come) shown_is

  same_stop_lines : (ps : List Path) (ts : List ScalarType) (number : ℕ) (earlier : List Scalar) (t u d f : ℕ) (rs ss : List Report) (stop : Stop)
      → t ≡ u → d ≡ f → rs ≡ ss → step_lines ps ts number earlier (stopped_step t d rs stop) ≡ step_lines ps ts number earlier (stopped_step u f ss stop)
  same_stop_lines ps ts number earlier t u d f rs ss stop c g h = rw (c, g, h) refl

  pub lines_stopped : (number : ℕ) (earlier : List Scalar) (stop : Stop)
      → step_lines (paths_of e) (types_of e) number earlier (stopped_step run.simulation.time run.simulation.delta run.simulation.reports stop)
      ≡ step_lines (paths_of e) (types_of e) number earlier (stopped_step x.time x.delta x.round.reports stop)
  lines_stopped number earlier stop =
      same_stop_lines (paths_of e) (types_of e) number earlier _ _ _ _ _ _ stop (time_come e run x come) (delta_come e run x come) (reports_come e run x come)

-- ---- the beginning

module _ (e : Elaborated) (cycles : ℕ) where
  whole_by : (o : Option ℕ) → o ≡ None → (t : KernelTrace) → unless_two o t ≡ t
  whole_by None is t = refl
  whole_by (Some i) is t = cc

  pub begins : (run : Running) → IsStarted e run → run.simulation.end ≡ None → (types : List ScalarType) → types ≡ types_of e → (text : List ℕ)
      → text ≡ step_lines run.paths types 0 [] (shown_step run.simulation.time run.simulation.delta run.simulation.reports (shown_by run))
      → HasPrinted e cycles run text 1 cycles (shown_by run)
  begins run started going types same text is-text =
      let x = initialised e.model nothing_given in
      let come = started.come in
      let go = trace_from e.model nothing_given cycles in
      let none : x.round.stop ≡ None = sym come.same.round.stop ∙ sym come.is_own.round_is.stop_is ∙ ap (λ end. Rattle.vd_simulation.specs.Rounds.optional_stop (Rattle.vd_simulation.specs.Simulations.stop_in end)) going in
      let all : trace e.model nothing_given cycles ≡ moment_on x go = whole_by _ started.one_source (moment_on x go) in
      let front = text_from e 1 (values_from x.view.shown 0 e.signals) (go (state_after x)) in
      record {
        state = state_after x;
        is_at = rests e run x come none;
        rest =
            ap (λ vs. text ++ text_from e 1 vs (go (state_after x))) (shown_is e run x come)
            ∙ ap (λ t. t ++ front) (is-text ∙ lines_shown e run x come types same 0 [])
            ∙ sym (moment_shown e 0 [] go x none)
            ∙ ap (text_from e 0 []) (sym all);
        stops = ap (λ k. ends_in_stop (end_of e k)) (sym (moment_end e 0 [] go x none)) ∙ ap (λ (t : KernelTrace). ends_in_stop (end_of e t.end)) (sym all);
      }

-- ---- a cycle

module _ (e : Elaborated) (cycles : ℕ) (old new : Running) (text : List ℕ) (number left : ℕ) (earlier : List Scalar) (p : HasPrinted e cycles old text number (suc left) earlier) where
  abbrev at : ℕ → Moment Process
  at = cycle e.model nothing_given p.state

  abbrev go : State Process → KernelTrace
  go = trace_from e.model nothing_given left

  next_by : (types : List ScalarType) → types ≡ types_of e → (after : List ℕ)
      → after ≡ text ++ step_lines new.paths types number earlier (shown_step new.simulation.time new.simulation.delta new.simulation.reports (shown_by new))
      → (o : Option ℕ) → next_time p.state ≡ o → AnswersCycle e at o (Ok Next) new → HasPrinted e cycles new after (number + 1) left (shown_by new)
  next_by types same after is-after None is answers = absurd cc
  next_by types same after is-after (Some now) is answers =
      let x = at now in
      let come = answers.1.0 in
      let none = answers.1.1 in
      let all : trace_from e.model nothing_given (suc left) p.state ≡ moment_on x go = ap (λ o. at_next o (λ t. moment_on (at t) go)) is in
      let lines = step_lines (paths_of e) (types_of e) number earlier (shown_step x.time x.delta x.round.reports (values_from x.view.shown 0 e.signals)) in
      let front = text_from e (number + 1) (values_from x.view.shown 0 e.signals) (go (state_after x)) in
      record {
        state = state_after x;
        is_at = rests e new x come none;
        rest =
            ap (λ vs. after ++ text_from e (number + 1) vs (go (state_after x))) (shown_is e new x come)
            ∙ ap (λ t. t ++ front) (is-after ∙ ap (λ t. text ++ t) (lines_shown e new x come types same number earlier))
            ∙ append_assoc text lines front
            ∙ ap (λ t. text ++ t) (sym (moment_shown e number earlier go x none) ∙ ap (text_from e number earlier) (sym all))
            ∙ p.rest;
        stops =
            ap (λ k. ends_in_stop (end_of e k)) (sym (moment_end e number earlier go x none))
            ∙ ap (λ (t : KernelTrace). ends_in_stop (end_of e t.end)) (sym all) ∙ p.stops;
      }

  pub next : (types : List ScalarType) → types ≡ types_of e → (after : List ℕ)
      → after ≡ text ++ step_lines new.paths types number earlier (shown_step new.simulation.time new.simulation.delta new.simulation.reports (shown_by new))
      → AnswersCycle e at (next_time p.state) (Ok Next) new → HasPrinted e cycles new after (number + 1) left (shown_by new)
  next types same after is-after answers = next_by types same after is-after (next_time p.state) refl answers

  quiet_by : (after : List ℕ) → after ≡ text ++ end_text quiet → (o : Option ℕ) → next_time p.state ≡ o → AnswersCycle e at o (Ok Quiet) new → HasPrintedAll e cycles after false
  quiet_by after is-after None is answers =
      let all : trace_from e.model nothing_given (suc left) p.state ≡ at_next None (λ t. moment_on (at t) go) = ap (λ o. at_next o (λ t. moment_on (at t) go)) is in
      record {
        text_is = is-after ∙ ap (λ t. text ++ text_from e number earlier t) (sym all) ∙ p.rest;
        stopped_is = ap (λ (t : KernelTrace). ends_in_stop (end_of e t.end)) (sym all) ∙ p.stops;
      }
  quiet_by after is-after (Some now) is answers = absurd (answers.0 refl)

  pub quiet_end : (after : List ℕ) → after ≡ text ++ end_text quiet → AnswersCycle e at (next_time p.state) (Ok Quiet) new → HasPrintedAll e cycles after false
  quiet_end after is-after answers = quiet_by after is-after (next_time p.state) refl answers

  stop_by : (stop : Stop) (after : List ℕ) → after ≡ text ++ step_lines (paths_of e) (types_of e) number earlier (stopped_step new.simulation.time new.simulation.delta new.simulation.reports stop)
      → (o : Option ℕ) → next_time p.state ≡ o → AnswersCycle e at o (Err (ends.Stop stop)) new → HasPrintedAll e cycles after true
  stop_by stop after is-after None is answers = absurd cc
  stop_by stop after is-after (Some now) is answers =
      let x = at now in
      let come = answers.1.0 in
      let told = moment_stopped e number earlier go x stop answers.1.1 in
      let all : trace_from e.model nothing_given (suc left) p.state ≡ moment_on x go = ap (λ o. at_next o (λ t. moment_on (at t) go)) is in
      record {
        text_is =
            is-after ∙ ap (λ t. text ++ t) (lines_stopped e new x come number earlier stop ∙ sym told.0 ∙ ap (text_from e number earlier) (sym all))
            ∙ p.rest;
        stopped_is = sym told.1 ∙ ap (λ (t : KernelTrace). ends_in_stop (end_of e t.end)) (sym all) ∙ p.stops;
      }

  pub stop_end : (stop : Stop) (after : List ℕ) → after ≡ text ++ step_lines (paths_of e) (types_of e) number earlier (stopped_step new.simulation.time new.simulation.delta new.simulation.reports stop)
      → AnswersCycle e at (next_time p.state) (Err (ends.Stop stop)) new → HasPrintedAll e cycles after true
  stop_end stop after is-after answers = stop_by stop after is-after (next_time p.state) refl answers

-- ---- the end

module _ (e : Elaborated) (cycles : ℕ) (run : Running) (text : List ℕ) (number : ℕ) (earlier : List Scalar) (p : HasPrinted e cycles run text number zero earlier) where
  abbrev last : Option ℕ → KernelTrace
  last o = at_next o (λ now. record { steps = []; end = Rattle.vd_kernel.specs.Traces.Done })

  same_last : (o : Option ℕ) → next_time (state_of itself run.simulation) ≡ o → trace_from e.model nothing_given zero p.state ≡ last o
  same_last o is = ap last (sym (next_time_at e run p.state p.is_at) ∙ is)

  ends_by : (after : List ℕ) (o : Option ℕ) → next_time (state_of itself run.simulation) ≡ o → after ≡ text ++ end_text (end_before o) → HasPrintedAll e cycles after false
  ends_by after None is is-after =
      record {
        text_is = is-after ∙ ap (λ t. text ++ text_from e number earlier t) (sym (same_last None is)) ∙ p.rest;
        stopped_is = ap (λ (t : KernelTrace). ends_in_stop (end_of e t.end)) (sym (same_last None is)) ∙ p.stops;
      }
  ends_by after (Some now) is is-after =
      record {
        text_is = is-after ∙ ap (λ t. text ++ text_from e number earlier t) (sym (same_last (Some now) is)) ∙ p.rest;
        stopped_is = ap (λ (t : KernelTrace). ends_in_stop (end_of e t.end)) (sym (same_last (Some now) is)) ∙ p.stops;
      }

  pub ends_all : (after : List ℕ) → after ≡ text ++ end_text (end_before (next_time (state_of itself run.simulation))) → HasPrintedAll e cycles after false
  ends_all after is-after = ends_by after (next_time (state_of itself run.simulation)) refl is-after

-- a front that is too long makes the whole too long
pub too_long : (e : Elaborated) (cycles : ℕ) (run : Running) (text : List ℕ) (number left : ℕ) (earlier : List Scalar) → HasPrinted e cycles run text number left earlier
    → output_limit < length text → output_limit < length (run_text e cycles)
too_long e cycles run text number left earlier p long =
    let parts = length-append text (text_from e number earlier (trace_from e.model nothing_given left p.state)) in
    omega (arith, ap length p.rest, parts)

-- the whole text, where it isn't too long
pub finishes : (e : Elaborated) (cycles : ℕ) (text : List ℕ) (stopped : Bool) (r : Result Traced ConvertEnd) → limit_of e ≡ None → HasPrintedAll e cycles text stopped → Finishes text stopped r → RunsDesign e cycles r
finishes e cycles text stopped (Ok t) within all f = (within, subst (λ x. length x ≤ output_limit) (sym f.1) f.0, record { text_is = f.1 ∙ all.text_is; stopped_is = f.2 ∙ all.stopped_is })
finishes e cycles text stopped (Err (answers.Refused x)) within all f = absurd f
finishes e cycles text stopped (Err (answers.Limit limit)) within all f = subst (λ l. RunsDesign e cycles (Err (answers.Limit l))) (sym f.0) (within, subst (λ x. output_limit < length x) all.text_is f.1)
finishes e cycles text stopped (Err answers.Memory) within all f = absurd f
