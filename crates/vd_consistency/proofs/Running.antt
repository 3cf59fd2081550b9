-- Commands that keep environments do so however they are run.
use Rattle.std.proofs.Common.{◌≡◌, ℕ, Bool, true, false, List, [], ◌∷◌, Option, Some, None}
use Rattle.std.specs.Prelude.{◌==◌, Ok, Err, IfOk, IfSome, if◌then◌else◌}
use Rattle.std.specs.List.{AllByRecursion}
use Rattle.vd_values.specs.declared.scalar.Scalar.{Scalar}
use Rattle.vd_values.specs.declared.scalar.StopKind.TheVariants.{Range}
use Rattle.vd_trees.specs.declared.traces.Report.{Report}
use Rattle.vd_kernel.specs.declared.assignments.Assignment.{Assignment}
use Rattle.vd_composites.specs.Composites.{Value, One, Array, Fields, Items, none, item}
use Rattle.vd_environments.specs.Got.{Got, halt_of}
use Rattle.vd_environments.specs.Environments.{ScalarSignal, Signals, Denotation, Env, denoting, with_value}
use Rattle.vd_environments.specs.Commands.{Jump, Exit, Next, Return, Command, Skip, Act, Then, Choose, Each, While, Turning, Wait, Leave, End, Ends, Suspends, Leaves, Stops, Out, just, doing, behind, end_after, then_from, means_loop, left_by, turn_from, with_got, each, run, in_order}
use Rattle.vd_environments.specs.Processes.{declared_by, settled_by}
use Rattle.vd_consistency.specs.Invariants.{AreOf, AllAreOf, HasSignals, IsNumberOf, IsEnv, IsDriver, AssignsTo, KeepsIn, Keeps, KeepsEnv, KeepsEnd, KeepsOut}
use Rattle.vd_consistency.proofs.Steps.{joined}

-- ---- environments

entry_of : (P : ScalarSignal → Bool) (b : Bool) (x y : Denotation) → IfSome x.signals (AreOf P) → IfSome y.signals (AreOf P) → IfSome (if b then x else y).signals (AreOf P)
entry_of P true x y h k = h
entry_of P false x y h k = k

-- with another denotation, whose signals are of the sort
pub denoting_keeps : (P : ScalarSignal → Bool) (n : ℕ) (d : Denotation) (e : Env) → IfSome d.signals (AreOf P) → HasSignals P e → HasSignals P (denoting n d e)
denoting_keeps P n d e k h = record { denoted = λ m. entry_of P (m == n) d (e.denotes m) k (h.denoted m) }

module _ (P Q : ScalarSignal → Bool) (k : (x : ScalarSignal) → P x ≡ true → Q x ≡ true) where
  mutual
    more_of : (v : Signals) → AreOf P v → AreOf Q v
    more_of (One x) j = k x j
    more_of (Array b vs) j = all_more_of vs j
    more_of (Fields vs) j = all_more_of vs j

    all_more_of : (vs : Items ScalarSignal) → AllAreOf P vs → AllAreOf Q vs
    all_more_of none j = tt
    all_more_of (item v vs) j = (more_of v j.0, all_more_of vs j.1)

  some_more : (x : Option Signals) → IfSome x (AreOf P) → IfSome x (AreOf Q)
  some_more (Some v) j = more_of v j
  some_more None j = tt

pub has_more : (P Q : ScalarSignal → Bool) (e : Env) → ((x : ScalarSignal) → P x ≡ true → Q x ≡ true) → HasSignals P e → HasSignals Q e
has_more P Q e k h = record { denoted = λ d. some_more P Q k (e.denotes d).signals (h.denoted d) }

module _ (P : ScalarSignal → Bool) (drivers : ℕ → Option ℕ) where
  pub denoting_env : (n : ℕ) (d : Denotation) (e : Env) → IfSome d.signals (AreOf P) → IsEnv P drivers e → IsEnv P drivers (denoting n d e)
  denoting_env n d e k h = record { has = denoting_keeps P n d e k h.has; drives = h.drives }

  pub value_env : (n : ℕ) (v : Value Scalar) (e : Env) → IsEnv P drivers e → IsEnv P drivers (with_value n v e)
  value_env n v e h = denoting_env n (record (e.denotes n) { value = v }) e (h.has.denoted n) h

  -- ---- runs

  behind_keeps : (sent : List Assignment) (said : List Report) (o : Out) → AssignsTo drivers sent → KeepsOut P drivers o → KeepsOut P drivers (behind sent said o)
  behind_keeps sent said o a h = record { assignments = joined (λ a. IsDriver drivers a.driver) sent o.assignments a h.assignments; end = h.end }

  end_keeps : (g : Got Env) → IfOk g (IsEnv P drivers) → KeepsEnd P drivers (end_after g)
  end_keeps (Ok e) h = h
  end_keeps (Err s) h = tt

  got_keeps : {A : Type 0} (g : Got A) (go : A → Out) → ((x : A) → KeepsOut P drivers (go x)) → KeepsOut P drivers (with_got g go)
  got_keeps (Ok x) go h = h x
  got_keeps (Err s) go h = record { assignments = tt; end = tt }

  got_that : {A : Type 0} (R : A → Type 0) (g : Got A) (go : A → Out) → IfOk g R → ((x : A) → R x → KeepsOut P drivers (go x)) → KeepsOut P drivers (with_got g go)
  got_that R (Ok x) go k h = h x k
  got_that R (Err s) go k h = record { assignments = tt; end = tt }

  if_keeps : (b : Bool) (x y : Out) → KeepsOut P drivers x → KeepsOut P drivers y → KeepsOut P drivers (if b then x else y)
  if_keeps true x y h k = h
  if_keeps false x y h k = k

  abbrev GoesOn : (Env → Out) → Type 0
  GoesOn go = (e : Env) → IsEnv P drivers e → KeepsOut P drivers (go e)

  then_keeps : (sent : List Assignment) (said : List Report) (x : End) (rest : Command) (go : Env → Out) → AssignsTo drivers sent → KeepsEnd P drivers x → KeepsIn P rest → GoesOn go
      → KeepsOut P drivers (then_from sent said x rest go)
  then_keeps sent said (Ends e) rest go a h k g = behind_keeps sent said (go e) a (g e h)
  then_keeps sent said (Suspends e pause left) rest go a h k g = record { assignments = a; end = (h.0, h.1, (h.2, k)) }
  then_keeps sent said (Leaves e jump) rest go a h k g = record { assignments = a; end = h }
  then_keeps sent said (Stops s) rest go a h k g = record { assignments = a; end = tt }

  left_keeps : (label : Option ℕ) (sent : List Assignment) (said : List Report) (e : Env) (jump : Jump) (go : Env → Out) → AssignsTo drivers sent → IsEnv P drivers e → GoesOn go
      → KeepsOut P drivers (left_by label sent said e jump go)
  left_keeps label sent said e (Exit l) go a h g =
      if_keeps (means_loop label l) (doing sent said (Ends e)) (doing sent said (Leaves e (Exit l))) (record { assignments = a; end = h }) (record { assignments = a; end = h })
  left_keeps label sent said e (Next l) go a h g =
      if_keeps (means_loop label l) (behind sent said (go e)) (doing sent said (Leaves e (Next l))) (behind_keeps sent said (go e) a (g e h)) (record { assignments = a; end = h })
  left_keeps label sent said e (Return v) go a h g = record { assignments = a; end = h }

  turn_keeps : (label : Option ℕ) (sent : List Assignment) (said : List Report) (x : End) (rest : Command) (go : Env → Out) → AssignsTo drivers sent → KeepsEnd P drivers x → KeepsIn P rest → GoesOn go
      → KeepsOut P drivers (turn_from label sent said x rest go)
  turn_keeps label sent said (Ends e) rest go a h k g = behind_keeps sent said (go e) a (g e h)
  turn_keeps label sent said (Suspends e pause left) rest go a h k g = record { assignments = a; end = (h.0, h.1, (h.2, k)) }
  turn_keeps label sent said (Leaves e jump) rest go a h k g = left_keeps label sent said e jump go a h g
  turn_keeps label sent said (Stops s) rest go a h k g = record { assignments = a; end = tt }

  each_keeps : (label : Option ℕ) (parameter : ℕ) (body : Command) → KeepsIn P body → (go : Env → Out) → GoesOn go → (vs : List (Value Scalar)) (e : Env) → IsEnv P drivers e
      → KeepsOut P drivers (each label parameter body go vs e)
  each_keeps label parameter body k go g [] e h = record { assignments = tt; end = h }
  each_keeps label parameter body k go g (v ∷ vs) e h =
      let o = g (with_value parameter v e) (value_env parameter v e h) in
      turn_keeps label _ _ _ (Each label parameter (λ _. Ok vs) body) (each label parameter body go vs) o.assignments o.end k (each_keeps label parameter body k go g vs)

  pub run_keeps : (c : Command) → KeepsIn P c → (e : Env) → IsEnv P drivers e → KeepsOut P drivers (run c e)
  run_keeps Skip k e h = record { assignments = tt; end = h }
  run_keeps (Act effect) k e h = let f = k drivers e h in record { assignments = f.assignments; end = end_keeps (effect e).after f.after }
  run_keeps (Then first second) k e h =
      let o = run_keeps first k.0 e h in then_keeps _ _ _ second (run second) o.assignments o.end k.1 (run_keeps second k.1)
  run_keeps (Choose test first second) k e h = got_keeps (test e) _ (λ b. if_keeps b (run first e) (run second e) (run_keeps first k.0 e h) (run_keeps second k.1 e h))
  run_keeps (Each label parameter values body) k e h = got_keeps (values e) _ (λ vs. each_keeps label parameter body k (run body) (run_keeps body k) vs e h)
  run_keeps (While label test body) k e h =
      got_keeps (test e) _ (λ b. if_keeps b _ (just (Ends e))
      (let o = run_keeps body k e h in turn_keeps label _ _ _ (While label test body) (λ _. just (Stops (halt_of Range))) o.assignments o.end k (λ f j. record { assignments = tt; end = tt }))
      (record { assignments = tt; end = h }))
  run_keeps (Turning label first again) k e h =
      let o = run_keeps first k.0 e h in turn_keeps label _ _ _ again (run again) o.assignments o.end k.1 (run_keeps again k.1)
  run_keeps (Wait pause) k e h = got_that (λ p. AllByRecursion (IsNumberOf P) p.on) (pause e) _ (k e h.has) (λ p i. record { assignments = tt; end = (h, i, tt) })
  run_keeps (Leave jump) k e h = got_keeps (jump e) _ (λ j. record { assignments = tt; end = h })

-- ---- lists of commands

pub in_order_keeps : (cs : List Command) → AllByRecursion Keeps cs → Keeps (in_order cs)
in_order_keeps [] h P = tt
in_order_keeps (c ∷ []) h P = h.0 P
in_order_keeps (c ∷ d ∷ cs) h P = (h.0 P, in_order_keeps (d ∷ cs) h.1 P)

-- ---- what a declaration declares for names

declared_by_keeps : (P : ScalarSignal → Bool) (drivers : ℕ → Option ℕ) (x : End) (e : Env) → KeepsEnd P drivers x → IsEnv P drivers e → IsEnv P drivers (declared_by x e)
declared_by_keeps P drivers (Ends f) e h k = h
declared_by_keeps P drivers (Suspends f pause rest) e h k = k
declared_by_keeps P drivers (Leaves f jump) e h k = k
declared_by_keeps P drivers (Stops s) e h k = k

pub settled_by_keeps : (c : Command) → Keeps c → (P : ScalarSignal → Bool) → KeepsEnv P (settled_by c)
settled_by_keeps c k P drivers e h = declared_by_keeps P drivers (run c e).end e (run_keeps P drivers c (k P) e h).end h
