-- Initialisation and the simulation cycle (IEEE 1076-1993, 12.6.4; IEEE 1076-2019, 14.7.5).
use Rattle.std.specs.Prelude.{ℕ, suc, ◌+◌, Bool, false, List, [], ◌∷◌, ◌++◌, Option, Some, None, map, flat_map, ◌==◌, ◌&&◌, ◌||◌, nat_le, if◌then◌else◌, min, is_some, option_to_list}
use Rattle.std.specs.List.{list_any}
use Rattle.vd_values.specs.declared.scalar.Scalar.{Scalar}
use Rattle.vd_values.specs.declared.scalar.StopKind.{StopKind}
use Rattle.vd_trees.specs.declared.traces.Report.{Report}
use Rattle.vd_kernel.specs.declared.assignments.Transaction.{Transaction}
use Rattle.vd_kernel.specs.Drivers.{Driver, is_same_value, advanced, after_assignments}
use Rattle.vd_kernel.specs.Models.{View, Cause, Start, Wake, Paused, Ending, Waits, Stops, Turn, Shape, Model, Stimulus, signal_at}
use Rattle.vd_kernel.specs.Values.{effective, shown}

-- A simulation between two cycles. A cycle at the time of the one before is a delta cycle, and delta counts these.
pub record State (P : Type 0) : Type 0 where
  pub time : ℕ
  pub delta : ℕ
  pub drivers : List Driver
  pub view : View
  pub processes : List (Paused P)

-- The next time: that of the earliest transaction or timeout, if there is any

abbrev pub least_with : ℕ → Option ℕ → Option ℕ
least_with t None = Some t
least_with t (Some u) = Some (min t u)

abbrev pub least : List ℕ → Option ℕ
least [] = None
least (t ∷ ts) = least_with t (least ts)

abbrev pub times : Driver → List ℕ
times d = map (λ t. t.time) d.waiting

abbrev pub next_time : {P : Type 0} → State P → Option ℕ
next_time s = least (flat_map times s.drivers ++ flat_map (λ p. option_to_list p.timeout) s.processes)

-- What the processes see once the drivers have changed

-- There is an event where the effective value or the shown one has changed; then it is the effective value from before.
abbrev pub before_change : (old new : Scalar) → (old_shown new_shown : Scalar) → Option Scalar
before_change old new old_shown new_shown =
    if is_same_value old new && is_same_value old_shown new_shown then None else Some old

-- initialisation has no event
abbrev pub first_view : Shape → Stimulus → List Driver → View
first_view m given ds =
    record { time = 0; value = effective m given ds; shown = shown m given ds; before = λ i. None }

abbrev pub next_view : Shape → Stimulus → ℕ → List Driver → View → View
next_view m given now ds old =
    record {
      time = now;
      value = effective m given ds;
      shown = shown m given ds;
      before = λ i. before_change (old.value i) (effective m given ds i) (old.shown i) (shown m given ds i);
    }

-- What a process does. All see one view, so that none sees what another assigns in the same cycle.

abbrev pub has_event : View → List ℕ → Bool
has_event v on = list_any (λ i. is_some (v.before i)) on

abbrev pub is_due : ℕ → Option ℕ → Bool
is_due now None = false
is_due now (Some t) = nat_le t now

-- a process with no reason to resume does nothing
abbrev pub waiting_still : {P : Type 0} → Paused P → Turn P
waiting_still p = record { assignments = []; reports = []; ending = Waits p }

-- A process has reason to resume where a signal that it waits for has an event, or its timeout is due. Whether the condition of its
-- wait holds is for its own step to say, which may give the same wait back.
abbrev pub turn : {P : Type 0} → (P → Cause → View → Turn P) → View → Paused P → Turn P
turn step v p =
    if has_event v p.on || is_due v.time p.timeout
    then step p.state (Wake (has_event v p.on) (is_due v.time p.timeout)) v
    else waiting_still p

-- a stop of the simulation: its kind, and the number of the process that came to it
pub record ProcessStop : Type 0 where
  pub kind : StopKind
  pub process : ℕ

-- what the turns of the processes come to, up to a stop
pub record Round (P : Type 0) : Type 0 where
  pub drivers : List Driver
  pub reports : List Report
  pub processes : List (Paused P)
  pub stop : Option ProcessStop

-- one process's turn, and what those after it come to. After a stop no other process runs.
abbrev pub and_then : {P : Type 0} → Ending P → ℕ → List Report → List Driver → Round P → Round P
and_then (Waits p) number reports ds rest =
    record rest { reports = reports ++ rest.reports; processes = p ∷ rest.processes }
and_then (Stops kind) number reports ds rest =
    record { drivers = ds; reports = reports; processes = []; stop = Some (record { kind = kind; process = number }) }

-- the turns in the order of the processes, the first of which has this number
abbrev pub round : {P : Type 0} → ℕ → List (Turn P) → List Driver → Round P
round number [] ds = record { drivers = ds; reports = []; processes = []; stop = None }
round number (t ∷ ts) ds =
    let after = after_assignments ds t.assignments in and_then t.ending number t.reports after (round (suc number) ts after)

-- Steps

-- a driver begins at the initial value of its signal
abbrev pub first_driver : Shape → (ℕ → List Transaction) → ℕ → Driver
first_driver m given i = record { current = (signal_at m i).initial; waiting = given i }

-- those of the processes, for which nothing is projected, and those of the outside, which hold what the stimulus gives
abbrev pub first_drivers : Shape → Stimulus → List Driver
first_drivers m given = map (first_driver m (λ i. [])) m.driven ++ map (first_driver m given) m.inputs

-- one step of a simulation: when it is, what the processes see, and what they do
pub record Moment (P : Type 0) : Type 0 where
  pub time : ℕ
  pub delta : ℕ
  pub view : View
  pub round : Round P

-- Initialisation: the first values, and a run of each process.
abbrev pub initialised : {P : Type 0} → Model P → Stimulus → Moment P
initialised m given =
    let ds = first_drivers m.shape given in
    let v = first_view m.shape given ds in
    record { time = 0; delta = 0; view = v; round = round 0 (map (λ p. m.step p Start v) m.processes) ds }

-- A simulation cycle at this time: drivers, then signals, then processes.
abbrev pub cycle : {P : Type 0} → Model P → Stimulus → State P → ℕ → Moment P
cycle m given s now =
    let ds = map (advanced now) s.drivers in
    let v = next_view m.shape given now ds s.view in
    record {
      time = now;
      delta = if now == s.time then s.delta + 1 else 0;
      view = v;
      round = round 0 (map (turn m.step v) s.processes) ds;
    }

abbrev pub state_after : {P : Type 0} → Moment P → State P
state_after x =
    record { time = x.time; delta = x.delta; drivers = x.round.drivers; view = x.view; processes = x.round.processes }
