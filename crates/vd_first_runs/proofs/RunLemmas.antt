-- A run goes through the steps of its design.
use Rattle.std.proofs.Common.{◌≡◌, ◌≢◌, ℕ, suc, Bool, true, false, List, [], ◌∷◌, map, length, get_or, ◌-◌, ◌<◌, arith, replicate, Option, Some, None, Ok, Err, refl, sym, ap, ap₂, ◌∙◌, subst}
use Rattle.std.specs.Prelude.{if◌then◌else◌, ◌||◌, slice_get}
use Rattle.std.specs.List.{AllByRecursion}
use Rattle.vd_trees.specs.declared.paths.Path.{Path}
use Rattle.vd_trees.specs.declared.traces.Report.{Report}
use Rattle.vd_trees.specs.declared.traces.Cycle.{Cycle}
use Rattle.vd_trees.specs.declared.traces.Cycle.TheVariants.{Quiet}
use Rattle.vd_trees.specs.declared.traces.CycleEnd.{CycleEnd}
use Rattle.vd_trees.specs.declared.traces.CycleEnd.TheVariants as ends
use Rattle.vd_trees.specs.Traces.{stops}
use Rattle.vd_kernel.specs.Drivers.{Driver, after_assignments}
use Rattle.vd_kernel.specs.Models.{View, Start, Paused, Ending, Waits, Turn, Stimulus}
use Rattle.vd_kernel.specs.Cycles.{State, Round, Moment, has_event, is_due, turn, next_time, and_then, round, initialised, cycle, state_after}
use Rattle.vd_kernel.specs.Traces.{step_of, outcome}
use Rattle.vd_kernel.specs.States.{SameState, SameMoment, SameSteps}
use Rattle.vd_kernel.specs.SignalValues.{nothing_given}
use Rattle.vd_kernel.proofs.SameRounds.{same_next_time, same_state_after}
use Rattle.vd_simulation.specs.declared.round.ProcessStop.{ProcessStop as StopCode}
use Rattle.vd_simulation.specs.declared.ends.SimulationEnd.{SimulationEnd}
use Rattle.vd_simulation.specs.declared.ends.SimulationEnd.TheVariants as simulation
use Rattle.vd_simulation.specs.Rounds.{stop_of}
use Rattle.vd_simulation.specs.Designs.{IsDesign}
use Rattle.vd_simulation.specs.Simulations.{Simulating, state_of, modelled, stop_in, IsMoment, HasStepped, IsNextStep}
use Rattle.vd_simulation.proofs.TracedSteps.{same_state}
use Rattle.vd_first_elaboration.specs.Tops.{TopUnits}
use Rattle.vd_first_elaboration.specs.Ports.{Port, entity_ports}
use Rattle.vd_first_elaboration.specs.Signals.{ScalarSignal, port_signal}
use Rattle.vd_first_elaboration.specs.Processes as definitions
use Rattle.vd_first_elaboration.specs.Processes.{Process, number_of}
use Rattle.vd_first_elaboration.specs.Elaboration.{Elaborated, port_names, elaborated_units}
use Rattle.vd_first_elaboration.specs.Traces.{scope_or_none, last_text, stop_text, outcome_of}
use Rattle.vd_trees.specs.declared.paths.Level.{Level}
use Rattle.vd_first_processes.specs.Resolved.{Resolved, step, resolved, IsResolved}
use Rattle.vd_first_processes.specs.Resolved.{itself}
use Rattle.vd_first_runs.specs.Runs.{Running, object_names, IsRunOf, IsAt, HasComeBy, HasCome, stop_told, IsEndAnswer, AnswersStep, AnswersCycle}
use Rattle.vd_first_processes.proofs.ResolvedLemmas.{resolved_steps}

-- ---- the steps of a design

pub names_of_signals : (level : Level) (ps : List Port) → map (λ (p : Path). p.object) (map (λ (s : ScalarSignal). s.path) (map (port_signal level) ps)) ≡ port_names ps
names_of_signals level [] = refl
names_of_signals level (p ∷ ps) = ap (λ ns. p.name ∷ ns) (names_of_signals level ps)

-- the design with processes that are resolved goes through the same steps
abbrev pub StepsOf : Elaborated → Type 0
StepsOf e =
    (ps : List Process)
    → SameSteps (λ i j. i ≡ j) (IsResolved (object_names e)) (modelled e.model.shape step (map (resolved (number_of (object_names e))) ps)) (modelled e.model.shape e.model.step ps)

steps_of_units : (u : TopUnits) → StepsOf (elaborated_units u)
steps_of_units u ps =
    let e = elaborated_units u in
    let names = port_names (entity_ports u.entity) in
    subst (λ ns. SameSteps (λ i j. i ≡ j) (IsResolved ns) (modelled e.model.shape step (map (resolved (number_of ns)) ps)) (modelled e.model.shape (definitions.step names) ps))
    (sym (names_of_signals _ (entity_ports u.entity))) (resolved_steps names e.model.shape ps)

pub steps_of_design : (e : Elaborated) (u : TopUnits) → e ≡ elaborated_units u → StepsOf e
steps_of_design e u is = subst StepsOf (sym is) (steps_of_units u)

-- ---- no process of the first language stops

abbrev GoesOn : {P : Type 0} → Turn P → Type 0
GoesOn {P} t = (p : Paused P) × (t.ending ≡ Waits p)

rest_stops : {P : Type 0} (e : Ending P) (p : Paused P) → e ≡ Waits p → (k : ℕ) (rs : List Report) (ds : List Driver) (r : Round P) → (and_then e k rs ds r).stop ≡ r.stop
rest_stops e p is k rs ds r = ap (λ d. (and_then d k rs ds r).stop) is

round_goes_on : {P : Type 0} (k : ℕ) (ts : List (Turn P)) (ds : List Driver) → AllByRecursion GoesOn ts → (round k ts ds).stop ≡ None
round_goes_on k [] ds all = refl
round_goes_on k (t ∷ ts) ds all =
    let after = after_assignments ds t.assignments in
    rest_stops t.ending all.0.0 all.0.1 k t.reports after (round (suc k) ts after) ∙ round_goes_on (suc k) ts after all.1

module _ (names : List (List ℕ)) (v : View) where
  first_turns : (ps : List Process) → AllByRecursion GoesOn (map (λ p. definitions.step names p Start v) ps)
  first_turns [] = tt
  first_turns (p ∷ ps) = ((_, refl), first_turns ps)

  either_turn : (b : Bool) (t u : Turn Process) → GoesOn t → GoesOn u → GoesOn (if b then t else u)
  either_turn true t u g h = g
  either_turn false t u g h = h

  next_turns : (ps : List (Paused Process)) → AllByRecursion GoesOn (map (turn (definitions.step names) v) ps)
  next_turns [] = tt
  next_turns (p ∷ ps) =
      (either_turn (has_event v p.on || is_due v.time p.timeout) _ _ (_, refl) (_, refl), next_turns ps)

pub first_goes_on : (u : TopUnits) (given : Stimulus) → (initialised (elaborated_units u).model given).round.stop ≡ None
first_goes_on u given =
    round_goes_on 0 _ _ (first_turns (port_names (entity_ports u.entity)) (initialised (elaborated_units u).model given).view (elaborated_units u).model.processes)

cycle_of_units : (u : TopUnits) (given : Stimulus) (t : State Process) (now : ℕ) → (cycle (elaborated_units u).model given t now).round.stop ≡ None
cycle_of_units u given t now =
    round_goes_on 0 _ _ (next_turns (port_names (entity_ports u.entity)) (cycle (elaborated_units u).model given t now).view t.processes)

pub cycle_goes_on : (e : Elaborated) (u : TopUnits) → e ≡ elaborated_units u → (given : Stimulus) (t : State Process) (now : ℕ) → (cycle e.model given t now).round.stop ≡ None
cycle_goes_on e u is given t now = subst (λ d. (cycle d.model given t now).round.stop ≡ None) (sym is) (cycle_of_units u given t now)

-- the end of a simulation that has come through a step in which nothing stopped
pub no_end : (s : Simulating Resolved) (own : Moment Resolved) (end : Option SimulationEnd) → end ≢ Some simulation.Memory → IsMoment itself (stop_in end) s own → own.round.stop ≡ None → end ≡ None
no_end s own None no_memory is goes = refl
no_end s own (Some (simulation.Stop stop)) no_memory is goes = let both = is.round_is.stop_is ∙ goes in cc
no_end s own (Some simulation.Memory) no_memory is goes = absurd (no_memory refl)

-- ---- the state after a step

module _ (e : Elaborated) (run : Running) (x : Moment Process) where
  rested : (stop : Option StopCode) → HasComeBy e run stop x → x.round.stop ≡ None → IsAt e run (state_after x)
  rested None come goes =
      record {
        run_of = come.run_of;
        same = subst (λ s. SameState (λ i j. i ≡ j) (IsResolved (object_names e)) s (state_after x)) (same_state itself run.simulation come.own come.is_own)
            (same_state_after (λ i j. i ≡ j) (IsResolved (object_names e)) come.own x come.same);
      }
  rested (Some stop) come goes = let both = come.is_own.round_is.stop_is ∙ come.same.round.stop ∙ goes in cc

  -- after a step in which nothing stopped, a run is in the state that the step leaves
  pub rests : HasCome e run x → x.round.stop ≡ None → IsAt e run (state_after x)
  rests = rested (stop_in run.simulation.end)

  -- what a run tells of the step that it has come through
  pub time_come : HasCome e run x → run.simulation.time ≡ x.time
  time_come come = come.is_own.time_is ∙ come.same.time

  pub delta_come : HasCome e run x → run.simulation.delta ≡ x.delta
  delta_come come = come.is_own.delta_is ∙ come.same.delta

  pub reports_come : HasCome e run x → run.simulation.reports ≡ x.round.reports
  reports_come come = come.is_own.round_is.reports_are ∙ come.same.round.reports

  pub shown_come : HasCome e run x → (i : ℕ) → (state_of itself run.simulation).view.shown i ≡ x.view.shown i
  shown_come come i = ap (λ (v : View). v.shown i) come.is_own.view_is ∙ come.same.view.shown i i refl

-- and what it tells of its state
pub next_time_at : (e : Elaborated) (run : Running) (t : State Process) → IsAt e run t → next_time (state_of itself run.simulation) ≡ next_time t
next_time_at e run t at = same_next_time (λ i j. i ≡ j) (IsResolved (object_names e)) (state_of itself run.simulation) t at.same

-- ---- the next cycle

module _ (e : Elaborated) (old new : Running) (t : State Process) (at : IsAt e old t) (paths : new.paths ≡ old.paths) (scope : new.scope ≡ old.scope) (count : new.process_count ≡ old.process_count) (signals : new.simulation.net.signals ≡ old.simulation.net.signals) where
  abbrev own_cycle : ℕ → Moment Resolved
  own_cycle = cycle (modelled e.model.shape step []) nothing_given (state_of itself old.simulation)

  abbrev its_cycle : ℕ → Moment Process
  its_cycle = cycle e.model nothing_given t

  stays : IsRunOf e new
  stays =
      let of = at.run_of in
      record {
        units = of.units;
        is_elaborated = of.is_elaborated;
        paths_are = paths ∙ of.paths_are;
        scopes_are = of.scopes_are ∙ ap₂ replicate (sym count) (sym scope);
        design = subst (IsDesign e.model.shape) (sym signals) of.design;
      }

  same_cycle : (now : ℕ) → SameMoment (λ i j. i ≡ j) (IsResolved (object_names e)) (own_cycle now) (its_cycle now)
  same_cycle now =
      (steps_of_design e at.run_of.units at.run_of.is_elaborated []).cycles nothing_given nothing_given (λ i j same. refl) (state_of itself old.simulation) t at.same now

  comes : (stop : Option StopCode) (now : ℕ) → IsMoment itself stop new.simulation (own_cycle now) → HasComeBy e new stop (its_cycle now)
  comes stop now is = record { run_of = stays; own = own_cycle now; is_own = is; same = same_cycle now }

  goes : (now : ℕ) → (its_cycle now).round.stop ≡ None
  goes = cycle_goes_on e at.run_of.units at.run_of.is_elaborated nothing_given t

  -- a cycle that doesn't stop
  module _ (answer : Cycle) (end : new.simulation.end ≡ None) where
    goes_at : (o : Option ℕ) → IsNextStep itself own_cycle o (Ok answer) new.simulation → AnswersCycle e its_cycle o (Ok answer) new
    goes_at None is = let quiet : answer ≡ Quiet = cc in ap Ok quiet
    goes_at (Some now) is =
        (λ q. is.0 (let quiet : answer ≡ Quiet = cc in ap Ok quiet), (subst (λ d. HasComeBy e new (stop_in d) (its_cycle now)) (sym end) (comes None now is.1), goes now))

    pub goes_to : IsNextStep itself own_cycle (next_time (state_of itself old.simulation)) (Ok answer) new.simulation → AnswersCycle e its_cycle (next_time t) (Ok answer) new
    goes_to is = goes_at (next_time t) (subst (λ o. IsNextStep itself own_cycle o (Ok answer) new.simulation) (next_time_at e old t at) is)

  -- the stop that a trace shows
  stop_shown : (stop : StopCode) (now : ℕ) → IsMoment itself (Some stop) new.simulation (own_cycle now) → outcome_of e (step_of (its_cycle now)) (step_of (its_cycle now)).outcome ≡ stops (stop_told new stop)
  stop_shown stop now is =
      let y = its_cycle now in
      let same = same_cycle now in
      let stopped : y.round.stop ≡ Some (stop_of stop) = sym (is.round_is.stop_is ∙ same.round.stop) in
      let reports = is.round_is.reports_are ∙ same.round.reports in
      ap (λ o. outcome_of e (step_of y) (outcome o y.view.shown)) stopped
      ∙ (λ k. stops (record {
        kind = stop.kind;
        time = sym (is.time_is ∙ same.time) k;
        delta = sym (is.delta_is ∙ same.delta) k;
        scope = scope_or_none (slice_get (stays.scopes_are k) stop.process);
        text = stop_text stop.kind (sym reports k);
      }))

  -- a cycle that ends the run
  module _ (end : SimulationEnd) (told : CycleEnd) (ended : new.simulation.end ≡ Some end) where
    ends_step : (e' : SimulationEnd) (c : CycleEnd) → new.simulation.end ≡ Some e' → IsEndAnswer new e' (Err c) → (now : ℕ) → HasStepped itself (Some e') new.simulation (own_cycle now) → AnswersStep e (Err c) new (its_cycle now)
    ends_step (simulation.Stop stop) (ends.Stop s) is tells now has =
        (subst (λ d. HasComeBy e new (stop_in d) (its_cycle now)) (sym is) (comes (Some stop) now has), stop_shown stop now has ∙ ap stops (sym tells))
    ends_step (simulation.Stop stop) ends.Memory is tells now has = tt
    ends_step simulation.Memory (ends.Stop s) is tells now has = cc
    ends_step simulation.Memory ends.Memory is tells now has = tt

    ends_at : (o : Option ℕ) → IsEndAnswer new end (Err told) → IsNextStep itself own_cycle o (Err end) new.simulation → AnswersCycle e its_cycle o (Err told) new
    ends_at None tells is = cc
    ends_at (Some now) tells is = (λ q. cc, ends_step end told ended tells now is.1)

    pub ends_by : IsEndAnswer new end (Err told) → IsNextStep itself own_cycle (next_time (state_of itself old.simulation)) (Err end) new.simulation → AnswersCycle e its_cycle (next_time t) (Err told) new
    ends_by tells is = ends_at (next_time t) tells (subst (λ o. IsNextStep itself own_cycle o (Err end) new.simulation) (next_time_at e old t at) is)

-- ---- the last report

pub last_report : (text : List ℕ) (rs : List Report) (d : Report) → 0 < length rs → (get_or rs (length rs - 1) d).text ≡ last_text text rs
last_report text [] d h = absurd (omega arith)
last_report text (r ∷ []) d h = refl
last_report text (r ∷ s ∷ rs) d h =
    let e : length (r ∷ s ∷ rs) - 1 ≡ suc (length (s ∷ rs) - 1) = omega arith in
    ap (λ n. (get_or (r ∷ s ∷ rs) n d).text) e ∙ last_report r.text (s ∷ rs) d (omega arith)
