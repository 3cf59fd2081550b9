-- Designs that correspond have the same run.
use Rattle.std.proofs.Common.{◌≡◌, ℕ, zero, suc, ◌+◌, Bool, true, false, List, Option, Some, None, map, refl, ap, ◌∙◌, subst}
use Rattle.std.specs.Prelude.{if◌then◌else◌, ◌||◌, ◌==◌, is_some}
use Rattle.std.specs.List.{AllZip}
use Rattle.vd_kernel.specs.Drivers.{advanced}
use Rattle.vd_kernel.specs.Models.{View, Start, Wake, Paused, Turn, Model, Stimulus}
use Rattle.vd_kernel.specs.Values.{driving}
use Rattle.vd_kernel.specs.Cycles.{State, first_view, next_view, has_event, is_due, waiting_still, turn, first_drivers, initialised, cycle}
use Rattle.vd_kernel.specs.Traces.{Trace, at_next, trace_from, unless_two, trace}
use Rattle.vd_kernel.specs.Correspondence.{BothOrNone, SameView, SamePaused, SameTurn, Corresponds, SameStimulus, SameTrace, SameRun}
use Rattle.vd_kernel.specs.States.{SameState, SameMoment, SameSteps}
use Rattle.vd_kernel.proofs.ListPairs.{same_list_any, AllZip-maps}
use Rattle.vd_kernel.proofs.SameValues.{same_driving, same_first_view, same_next_view, same_first_drivers}
use Rattle.vd_kernel.proofs.SameRounds.{same_round, same_next_time, same_state_after, same_moment_on}

module _ {P Q : Type 0} (joined : ℕ → ℕ → Type 0) (related : P → Q → Type 0) (m : Model P) (n : Model Q) (same : Corresponds joined related m n) (given other : Stimulus) (stimulus : SameStimulus joined given other) where
  abbrev Seen : View → View → Type 0
  Seen v w = SameView joined v w

  -- What processes do

  choice : (a b : Bool) → a ≡ b → (t t' : Turn P) (u u' : Turn Q) → SameTurn joined related t u → SameTurn joined related t' u' → SameTurn joined related (if a then t else t') (if b then u else u')
  choice true true e t t' u u' x y = x
  choice true false e t t' u u' x y = cc
  choice false true e t t' u u' x y = cc
  choice false false e t t' u u' x y = y

  same_turn : (v : View) (w : View) → Seen v w → (p : Paused P) (q : Paused Q) → SamePaused joined related p q → SameTurn joined related (turn m.step v p) (turn n.step w q)
  same_turn v w s p q z =
      let e = z.on v w s in
      let d : is_due v.time p.timeout ≡ is_due w.time q.timeout = ap (λ t. is_due t p.timeout) s.time ∙ ap (is_due w.time) z.timeout in
      let both : (has_event v p.on || is_due v.time p.timeout) ≡ (has_event w q.on || is_due w.time q.timeout) = cc in
      let causes : Wake (has_event v p.on) (is_due v.time p.timeout) ≡ Wake (has_event w q.on) (is_due w.time q.timeout) = cc in
      let run = same.steps p.state q.state z.state (Wake (has_event v p.on) (is_due v.time p.timeout)) v w s in
      let run' = subst (λ c. SameTurn joined related (m.step p.state (Wake (has_event v p.on) (is_due v.time p.timeout)) v) (n.step q.state c w)) causes run in
      let rest : SameTurn joined related (waiting_still p) (waiting_still q) = record { assignments = refl; reports = refl; ending = z } in
      choice _ _ both _ _ _ _ run' rest

  -- Steps

  same_drivers : first_drivers m.shape given ≡ first_drivers n.shape other
  same_drivers = same_first_drivers joined m.shape n.shape same.shape given other stimulus

  pub same_initialised : SameMoment joined related (initialised m given) (initialised n other)
  same_initialised =
      let ds = first_drivers m.shape given in
      let v = first_view m.shape given ds in
      let w = first_view n.shape other (first_drivers n.shape other) in
      let s : Seen v w = subst (λ d. Seen v (first_view n.shape other d)) same_drivers (same_first_view joined m.shape n.shape same.shape given other stimulus ds) in
      record {
        time = refl;
        delta = refl;
        view = s;
        round = same_round joined related 0 _ _ (AllZip-maps related (SameTurn joined related) (λ p. m.step p Start v) (λ q. n.step q Start w) (λ p q r. same.steps p q r Start v w s) m.processes n.processes same.starts) _ _ same_drivers;
      }

  pub same_cycle : (s : State P) (t : State Q) → SameState joined related s t → (now : ℕ) → SameMoment joined related (cycle m given s now) (cycle n other t now)
  same_cycle s t z now =
      let ds = map (advanced now) s.drivers in
      let ds' = map (advanced now) t.drivers in
      let d : ds ≡ ds' = ap (map (advanced now)) z.drivers in
      let v = next_view m.shape given now ds s.view in
      let w = next_view n.shape other now ds' t.view in
      let e : Seen v w = subst (λ d. Seen v (next_view n.shape other now d t.view)) d (same_next_view joined m.shape n.shape same.shape given other stimulus now ds s.view t.view z.view) in
      record {
        time = refl;
        delta = ap (λ x. if now == x then s.delta + 1 else 0) z.time ∙ ap (λ x. if now == t.time then x + 1 else 0) z.delta;
        view = e;
        round = same_round joined related 0 _ _ (AllZip-maps (SamePaused joined related) (SameTurn joined related) (turn m.step v) (turn n.step w) (same_turn v w e) s.processes t.processes z.processes) ds ds' d;
      }

  -- Traces

  same_at_next : (a b : Option ℕ) → a ≡ b → (f g : ℕ → Trace) → ((now : ℕ) → SameTrace joined (f now) (g now)) → SameTrace joined (at_next a f) (at_next b g)
  same_at_next None None e f g h = record { steps = tt; end = tt }
  same_at_next None (Some b) e f g h = cc
  same_at_next (Some a) None e f g h = cc
  same_at_next (Some a) (Some b) e f g h = let d : a ≡ b = cc in subst (λ c. SameTrace joined (f a) (g c)) d (h a)

  same_trace_from : (k : ℕ) (s : State P) (t : State Q) → SameState joined related s t → SameTrace joined (trace_from m given k s) (trace_from n other k t)
  same_trace_from zero s t z = same_at_next _ _ (same_next_time joined related s t z) _ _ (λ now. record { steps = tt; end = tt })
  same_trace_from (suc k) s t z =
      same_at_next _ _ (same_next_time joined related s t z) _ _ (λ now. same_moment_on joined related _ _ (same_cycle s t z now) _ _ (same_trace_from k))

  same_unless_two : (a b : Option ℕ) → BothOrNone joined a b → (t u : Trace) → SameTrace joined t u → SameTrace joined (unless_two a t) (unless_two b u)
  same_unless_two None None z t u e = e
  same_unless_two None (Some b) z t u e = absurd z
  same_unless_two (Some a) None z t u e = absurd z
  same_unless_two (Some a) (Some b) z t u e = record { steps = tt; end = z }

  pub same_trace : (k : ℕ) → SameTrace joined (trace m given k) (trace n other k)
  same_trace k = same_unless_two _ _ same.shape.two _ _ (same_moment_on joined related _ _ same_initialised _ _ (same_trace_from k))

-- The theorem. A clause can't range over the types of the processes' states, so crates above import this lemma for their own types.
pub same_run : {P Q : Type 0} (joined : ℕ → ℕ → Type 0) (related : P → Q → Type 0) (m : Model P) (n : Model Q) → Corresponds joined related m n → SameRun joined m n
same_run joined related m n same = record { traces = λ given other stimulus k. same_trace joined related m n same given other stimulus k }

-- and they go through the same states
pub same_steps : {P Q : Type 0} (joined : ℕ → ℕ → Type 0) (related : P → Q → Type 0) (m : Model P) (n : Model Q) → Corresponds joined related m n → SameSteps joined related m n
same_steps joined related m n same =
    record {
      first = λ given other stimulus. same_initialised joined related m n same given other stimulus;
      next = same_next_time joined related;
      cycles = λ given other stimulus. same_cycle joined related m n same given other stimulus;
      driving_values = λ given other stimulus s t z i j e. same_driving joined m.shape n.shape same.shape given other stimulus s.drivers i j e ∙ ap (λ ds. driving n.shape other ds j) z.drivers;
      after = same_state_after joined related;
    }

-- processes that wait for joined signals wait for the same events
pub same_events : (joined : ℕ → ℕ → Type 0) (on on' : List ℕ) → AllZip joined on on' → (v w : View) → SameView joined v w → has_event v on ≡ has_event w on'
same_events joined on on' z v w s = same_list_any joined _ _ (λ i j e. ap is_some (s.before i j e)) on on' z
