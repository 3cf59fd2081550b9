-- Turns that are the same come to the same, from one step of a simulation to the next.
use Rattle.std.proofs.Common.{◌≡◌, ℕ, suc, List, [], ◌∷◌, ◌++◌, Option, Some, None, refl, ap}
use Rattle.std.specs.Prelude.{option_to_list}
use Rattle.std.specs.List.{AllZip, flat_map}
use Rattle.vd_values.specs.declared.scalar.Scalar.{Scalar}
use Rattle.vd_trees.specs.declared.traces.Report.{Report}
use Rattle.vd_kernel.specs.Drivers.{Driver, after_assignments}
use Rattle.vd_kernel.specs.Models.{Ending, Waits, Stops, Turn}
use Rattle.vd_kernel.specs.Cycles.{State, ProcessStop, Round, Moment, least, times, next_time, and_then, round, state_after}
use Rattle.vd_kernel.specs.Traces.{Trace, outcome, step_of, unless_stopped, moment_on}
use Rattle.vd_kernel.specs.Correspondence.{SamePaused, SameEnding, SameTurn, SameOutcome, SameStep, SameTrace}
use Rattle.vd_kernel.specs.States.{SameRound, SameState, SameMoment}
use Rattle.vd_kernel.proofs.ListPairs.{same_flat_map}

module _ {P Q : Type 0} (joined : ℕ → ℕ → Type 0) (related : P → Q → Type 0) where
  same_and_then : (a : Ending P) (b : Ending Q) → SameEnding joined related a b → (k : ℕ) (rs rs' : List Report) → rs ≡ rs' → (ds ds' : List Driver) → ds ≡ ds' → (r : Round P) (s : Round Q) → SameRound joined related r s → SameRound joined related (and_then a k rs ds r) (and_then b k rs' ds' s)
  same_and_then (Waits p) (Waits q) z k rs rs' e ds ds' d r s x =
      let f = x.reports in
      let g : rs ++ r.reports ≡ rs' ++ s.reports = cc in
      record { drivers = x.drivers; reports = g; processes = (z, x.processes); stop = x.stop }
  same_and_then (Waits p) (Stops l) z k rs rs' e ds ds' d r s x = absurd z
  same_and_then (Stops l) (Waits q) z k rs rs' e ds ds' d r s x = absurd z
  same_and_then (Stops l) (Stops l') z k rs rs' e ds ds' d r s x =
      record { drivers = d; reports = e; processes = tt; stop = ap (λ c. Some (record { kind = c; process = k })) z }

  pub same_round : (k : ℕ) (ts : List (Turn P)) (us : List (Turn Q)) → AllZip (SameTurn joined related) ts us → (ds : List Driver) (ds' : List Driver) → ds ≡ ds' → SameRound joined related (round k ts ds) (round k us ds')
  same_round k [] [] z ds ds' d = record { drivers = d; reports = refl; processes = tt; stop = refl }
  same_round k [] (u ∷ us) z ds ds' d = absurd z
  same_round k (t ∷ ts) [] z ds ds' d = absurd z
  same_round k (t ∷ ts) (u ∷ us) z ds ds' d =
      let p = z.0.assignments in
      let e : after_assignments ds t.assignments ≡ after_assignments ds' u.assignments = cc in
      same_and_then t.ending u.ending z.0.ending k _ _ z.0.reports _ _ e _ _ (same_round (suc k) ts us z.1 _ _ e)

  pub same_next_time : (s : State P) (t : State Q) → SameState joined related s t → next_time s ≡ next_time t
  same_next_time s t z =
      let a = ap (flat_map times) z.drivers in
      let b = same_flat_map (SamePaused joined related) (λ p. option_to_list p.timeout) (λ q. option_to_list q.timeout) (λ p q e. ap option_to_list e.timeout) s.processes t.processes z.processes in
      let c : flat_map times s.drivers ++ flat_map (λ p. option_to_list p.timeout) s.processes ≡ flat_map times t.drivers ++ flat_map (λ q. option_to_list q.timeout) t.processes = cc in
      ap least c

  pub same_outcome : (a b : Option ProcessStop) → a ≡ b → (f g : ℕ → Scalar) → ((i j : ℕ) → joined i j → f i ≡ g j) → SameOutcome joined (outcome a f) (outcome b g)
  same_outcome None None e f g h = h
  same_outcome None (Some b) e f g h = cc
  same_outcome (Some a) None e f g h = cc
  same_outcome (Some a) (Some b) e f g h = cc

  pub same_unless_stopped : (a b : Option ProcessStop) → a ≡ b → (t u : Trace) → SameTrace joined t u → SameTrace joined (unless_stopped a t) (unless_stopped b u)
  same_unless_stopped None None e t u z = z
  same_unless_stopped None (Some b) e t u z = cc
  same_unless_stopped (Some a) None e t u z = cc
  same_unless_stopped (Some a) (Some b) e t u z = record { steps = tt; end = tt }

  pub same_state_after : (x : Moment P) (y : Moment Q) → SameMoment joined related x y → SameState joined related (state_after x) (state_after y)
  same_state_after x y z =
      record { time = z.time; delta = z.delta; drivers = z.round.drivers; view = z.view; processes = z.round.processes }

  pub same_moment_on : (x : Moment P) (y : Moment Q) → SameMoment joined related x y → (f : State P → Trace) (g : State Q → Trace) → ((s : State P) (t : State Q) → SameState joined related s t → SameTrace joined (f s) (g t)) → SameTrace joined (moment_on x f) (moment_on y g)
  same_moment_on x y z f g h =
      let rest = same_unless_stopped x.round.stop y.round.stop z.round.stop _ _ (h (state_after x) (state_after y) (same_state_after x y z)) in
      let step : SameStep joined (step_of x) (step_of y) = record { time = z.time; delta = z.delta; reports = z.round.reports; outcome = same_outcome _ _ z.round.stop _ _ z.view.shown } in
      record { steps = (step, rest.steps); end = rest.end }
