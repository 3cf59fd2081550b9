-- A process is elaborated with drivers of its own, and each of its turns assigns to these alone.
use Rattle.std.proofs.Common.{◌≡◌, ℕ, suc, Bool, true, false, List, [], ◌∷◌, ◌++◌, length, Option, Some, None, refl, arith}
use Rattle.std.specs.Prelude.{◌==◌, Ok, Err, IfOk, IfSome, if◌then◌else◌}
use Rattle.std.specs.List.{AllByRecursion, list_any}
use Rattle.vd_trees.specs.declared.traces.Report.{Report}
use Rattle.vd_kernel.specs.declared.assignments.Assignment.{Assignment}
use Rattle.vd_kernel.specs.Models.{View, Cause, Start, Wake, Turn}
use Rattle.vd_environments.specs.Got.{Got}
use Rattle.vd_environments.specs.Environments.{ScalarSignal, Signals, Env, seeing, inside}
use Rattle.vd_environments.specs.Commands.{Command, End, Ends, Suspends, Leaves, Stops, doing, run}
use Rattle.vd_environments.specs.Processes.{Running, from_first, turn_of, resumed, waiting, resumed_if, step, Process, numbers_of, once, driven_by, place_from, names_of, body_of, declared_end, declared, Elaborated, with_drivers, elaborated}
use Rattle.vd_consistency.specs.Consistency.{Resumption, left_waiting, then_turn, after_turns, IsFrom, AssignsWithin, OwnsDrivers, waited_for}
use Rattle.vd_consistency.specs.Invariants.{AreOf, HasSignals, IsNumberOf, IsEnv, IsDriver, AssignsTo, KeepsIn, Keeps, KeepsEnd, KeepsOut, IsRunning, IsProcess}
use Rattle.vd_consistency.proofs.Steps.{after, joined, weaker}
use Rattle.vd_consistency.proofs.Reading.{numbers_keep}
use Rattle.vd_consistency.proofs.Running.{has_more, run_keeps}

-- ---- turns

module _ (P : ScalarSignal → Bool) (drivers : ℕ → Option ℕ) where
  record IsTurn (t : Turn Running) : Type 0 where
    sends : AssignsTo drivers t.assignments
    waits : IfSome (left_waiting t.ending) (IsRunning P drivers)
    list : AllByRecursion (IsNumberOf P) (waited_for t.ending)

  first_keeps : (sent : List Assignment) (said : List Report) (x : End) (body : Command) → AssignsTo drivers sent → KeepsEnd P drivers x → KeepsIn P body → KeepsOut P drivers (from_first sent said x body)
  first_keeps sent said (Ends e) body a h k =
      let o = run_keeps P drivers body k e h in record { assignments = joined (λ a. IsDriver drivers a.driver) sent _ a o.assignments; end = o.end }
  first_keeps sent said (Suspends e pause left) body a h k = record { assignments = a; end = h }
  first_keeps sent said (Leaves e jump) body a h k = record { assignments = a; end = h }
  first_keeps sent said (Stops s) body a h k = record { assignments = a; end = tt }

  ending_keeps : (body : Command) → KeepsIn P body → (sent : List Assignment) (said : List Report) (x : End) → AssignsTo drivers sent → KeepsEnd P drivers x → IsTurn (turn_of body (doing sent said x))
  ending_keeps body k sent said (Suspends e pause left) a h = record { sends = a; waits = record { of_env = h.0; of_body = k; of_rest = h.2; of_list = h.1 }; list = h.1 }
  ending_keeps body k sent said (Stops s) a h = record { sends = a; waits = tt; list = tt }
  ending_keeps body k sent said (Ends e) a h = record { sends = a; waits = tt; list = tt }
  ending_keeps body k sent said (Leaves e jump) a h = record { sends = a; waits = tt; list = tt }

  module _ (p : Running) (h : IsRunning P drivers p) (v : View) where
    resumed_keeps : IsTurn (resumed p v)
    resumed_keeps =
        let o = run_keeps P drivers p.rest h.of_rest (seeing v p.env) (record { has = record { denoted = h.of_env.has.denoted }; drives = h.of_env.drives }) in
        let u = first_keeps _ _ _ p.body o.assignments o.end h.of_body in
        ending_keeps p.body h.of_body _ _ _ u.assignments u.end

    choice : (b : Bool) (t u : Turn Running) → IsTurn t → IsTurn u → IsTurn (if b then t else u)
    choice true t u x y = x
    choice false t u x y = y

    decided : (g : Got Bool) → IsTurn (resumed_if p v g)
    decided (Ok b) = choice b (resumed p v) (waiting p) resumed_keeps (record { sends = tt; waits = h; list = h.of_list })
    decided (Err s) = record { sends = tt; waits = tt; list = tt }

    step_keeps : (c : Cause) → IsTurn (step p c v)
    step_keeps Start = resumed_keeps
    step_keeps (Wake event due) = choice due _ _ resumed_keeps (decided (p.until (seeing v p.env)))

  then_keeps : (o : Option Running) (r : Resumption) → IfSome o (IsRunning P drivers) → IfSome (then_turn o r) (IsRunning P drivers)
  then_keeps None r h = tt
  then_keeps (Some p) r h = (step_keeps p h r.view r.cause).waits

  turns_keep : (rs : List Resumption) (o : Option Running) → IfSome o (IsRunning P drivers) → IfSome (after_turns o rs) (IsRunning P drivers)
  turns_keep [] o h = h
  turns_keep (r ∷ rs) o h = turns_keep rs (then_turn o r) (then_keeps o r h)

  if_running : (R : Running → Type 0) → ((p : Running) → IsRunning P drivers p → R p) → (o : Option Running) → IfSome o (IsRunning P drivers) → IfSome o R
  if_running R k None h = tt
  if_running R k (Some p) h = k p h

  -- it waits for numbers of the sort
  pub waits_for : (Q : ℕ → Type 0) → ((n : ℕ) → IsNumberOf P n → Q n) → (p : Running) → IsRunning P drivers p → (rs : List Resumption)
      → IfSome (after_turns (Some p) rs) (λ q. (r : Resumption) → AllByRecursion Q (waited_for (step q r.cause r.view).ending))
  waits_for Q k p h rs =
      if_running (λ q. (r : Resumption) → AllByRecursion Q (waited_for (step q r.cause r.view).ending))
      (λ q j r. weaker (IsNumberOf P) Q k _ (step_keeps q j r.view r.cause).list) (after_turns (Some p) rs) (turns_keep rs (Some p) h)

-- ---- the drivers of a process

here_or_later : (first count d : ℕ) (b : Bool) (rest : Option ℕ) → (rest ≡ Some d → IsFrom (suc first) count d) → (if b then Some first else rest) ≡ Some d → IsFrom first (suc count) d
here_or_later first count d true rest k e = let i : first ≡ d = cc in record { place = 0; is_within = omega arith; is = omega arith }
here_or_later first count d false rest k e =
    let j = k e in let w = j.is_within in let i = j.is in record { place = suc j.place; is_within = omega arith; is = omega arith }

none_from : {A : Type 0} (d : ℕ) → None ≡ Some d → A
none_from d e = absurd (cc)

placed_from : (first : ℕ) (ns : List ℕ) (n d : ℕ) → place_from first ns n ≡ Some d → IsFrom first (length ns) d
placed_from first [] n d e = none_from d e
placed_from first (m ∷ ms) n d e = here_or_later first (length ms) d (m == n) (place_from (suc first) ms n) (placed_from (suc first) ms n d) e

pub owns : (P : ScalarSignal → Bool) (first : ℕ) (ns : List ℕ) (p : Running) → IsRunning P (place_from first ns) p → OwnsDrivers first (length ns) p
owns P first ns p h rs =
    if_running P (place_from first ns) (AssignsWithin first (length ns))
    (λ q j r. weaker _ _ (λ a d. placed_from first ns d.of a.driver d.is) _ (step_keeps P (place_from first ns) q j r.view r.cause).sends)
    (after_turns (Some p) rs) (turns_keep P (place_from first ns) rs (Some p) h)

-- ---- elaboration of a process

module _ (P : ScalarSignal → Bool) (drivers : ℕ → Option ℕ) where
  pub declared_end_keeps : (x : End) → KeepsEnd P drivers x → IfOk (declared_end x) (IsEnv P drivers)
  declared_end_keeps (Ends f) h = h
  declared_end_keeps (Suspends f pause rest) h = tt
  declared_end_keeps (Leaves f jump) h = tt
  declared_end_keeps (Stops s) h = tt

  pub declared_keeps : (cs : List Command) → AllByRecursion Keeps cs → (e : Env) → IsEnv P drivers e → IfOk (declared cs e) (IsEnv P drivers)
  declared_keeps [] k e h = h
  declared_keeps (c ∷ cs) k e h =
      after (IsEnv P drivers) (IsEnv P drivers) (declared_end (run c e).end) (declared cs) (declared_end_keeps (run c e).end (run_keeps P drivers c (k.0 P) e h).end) (declared_keeps cs k.1)

module _ (P Q : ScalarSignal → Bool) (more : (x : ScalarSignal) → P x ≡ true → Q x ≡ true) where
  more_numbers : (n : ℕ) → IsNumberOf P n → IsNumberOf Q n
  more_numbers n h = record { signal = h.signal; is_of = more h.signal h.is_of; is = h.is }

  body_keeps : (c : Command) → Keeps c → (x : Option (Env → Got (List Signals))) (names : List Signals) → AllByRecursion (AreOf P) names → KeepsIn Q (body_of c x names)
  body_keeps c k None names h = k Q
  body_keeps c k (Some list) names h = (k Q, λ e j. weaker (IsNumberOf P) (IsNumberOf Q) more_numbers (numbers_of names) (numbers_keep P names h))

names_keep : (P : ScalarSignal → Bool) (x : Option (Env → Got (List Signals))) → IfSome x (λ f. (e : Env) → HasSignals P e → IfOk (f e) (AllByRecursion (AreOf P))) → (e : Env) → HasSignals P e
    → IfOk (names_of x e) (AllByRecursion (AreOf P))
names_keep P None k e h = tt
names_keep P (Some f) k e h = k e h

once_has : (Q : ℕ → Type 0) (before ns : List ℕ) → AllByRecursion Q before → AllByRecursion Q ns → AllByRecursion Q (once before ns)
once_has Q before [] h k = h
once_has Q before (n ∷ ns) h k =
    known_or_new (list_any (λ m. m == n) before) (once before ns) (once (before ++ n ∷ []) ns) (once_has Q before ns h k.1) (once_has Q (before ++ n ∷ []) ns (joined Q before (n ∷ []) h (k.0, tt)) k.1) where
      known_or_new : (b : Bool) (xs ys : List ℕ) → AllByRecursion Q xs → AllByRecursion Q ys → AllByRecursion Q (if b then xs else ys)
      known_or_new true xs ys h k = h
      known_or_new false xs ys h k = k

-- a process that is elaborated, and stays under way where there are more signals
pub record IsElaborated (P : ScalarSignal → Bool) (first : ℕ) (q : Elaborated) : Type 0 where
  pub running : (Q : ScalarSignal → Bool) → ((x : ScalarSignal) → P x ≡ true → Q x ≡ true) → IsRunning Q (place_from first q.driven) q.running
  pub drives : AllByRecursion (IsNumberOf P) q.driven

pub elaborated_keeps : (P : ScalarSignal → Bool) (first : ℕ) (p : Process) → IsProcess P p → (e : Env) → HasSignals P e → IfOk (elaborated first p e) (IsElaborated P first)
elaborated_keeps P first p k e h =
    let s = k.settling e.drivers (inside e) (record { has = record { denoted = h.denoted }; drives = refl }) in
    after (AllByRecursion (AreOf P)) (IsElaborated P first) (names_of p.sensitivity (p.settling (inside e))) _ (names_keep P p.sensitivity k.sensitivity (p.settling (inside e)) s.has) (λ names l.
    after (AllByRecursion (AreOf P)) (IsElaborated P first) (p.targets (p.settling (inside e))) _ (k.targets (p.settling (inside e)) s.has) (λ targets j.
    after (IsEnv P (place_from first (driven_by targets))) (IsElaborated P first) (declared p.declarations (with_drivers first (driven_by targets) e)) _
    (declared_keeps P (place_from first (driven_by targets)) p.declarations k.declarations (with_drivers first (driven_by targets) e) (record { has = record { denoted = h.denoted }; drives = refl })) (λ f i.
    record {
      running = λ Q more.
          record {
            of_env = record { has = has_more P Q f more i.has; drives = i.drives };
            of_body = body_keeps P Q more p.statements k.statements p.sensitivity names l;
            of_rest = tt;
            of_list = tt;
          };
      drives = once_has (IsNumberOf P) [] (numbers_of targets) tt (numbers_keep P targets j);
    })))
