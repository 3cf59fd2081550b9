-- What statements and declarations do, as commands, and how these run. (IEEE 1076, sequential statements.) A loop with a head of a condition, or
-- with none, has a wait in its own list of statements, as the rules ask; one that comes to the end of a turn without one stops here.
use Rattle.std.specs.Prelude.{ℕ, ◌==◌, Bool, true, false, List, [], ◌∷◌, ◌++◌, Option, Some, None, Ok, Err, if◌then◌else◌}
use Rattle.vd_values.specs.declared.scalar.Scalar.{Scalar}
use Rattle.vd_values.specs.declared.scalar.StopKind.TheVariants.{Range}
use Rattle.vd_trees.specs.declared.traces.Report.{Report}
use Rattle.vd_kernel.specs.declared.assignments.Assignment.{Assignment}
use Rattle.vd_composites.specs.Composites.{Value}
use Rattle.vd_environments.specs.Got.{Halt, Got, halt_of}
use Rattle.vd_environments.specs.Environments.{Env, with_value}

-- what an assignment, a report or a declaration does
pub record Effect : Type 0 where
  pub assignments : List Assignment
  pub reports : List Report
  pub after : Got Env

-- a wait: the scalar signals whose events end it, its condition, and the time at which it ends in any case
pub record Pause : Type 0 where
  pub on : List ℕ
  pub until : Env → Got Bool
  pub timeout : Option ℕ

-- How a list of statements is left before its end. A loop is named by its label, and the innermost one by nothing.
pub data Jump : Type 0 where
  Exit : (loop : Option ℕ) → Jump
  Next : (loop : Option ℕ) → Jump
  Return : (value : Value Scalar) → Jump

pub data Command : Type 0 where
  Skip : Command
  Act : (effect : Env → Effect) → Command
  Then : (first second : Command) → Command
  Choose : (test : Env → Got Bool) → (first second : Command) → Command
  -- the body once for each of some values of the loop parameter
  Each : (label : Option ℕ) (parameter : ℕ) → (values : Env → Got (List (Value Scalar))) → (body : Command) → Command
  While : (label : Option ℕ) → (test : Env → Got Bool) → (body : Command) → Command
  -- what is left of one turn of a loop, and the turns after it
  Turning : (label : Option ℕ) → (first again : Command) → Command
  Wait : (pause : Env → Got Pause) → Command
  Leave : (jump : Env → Got Jump) → Command

-- where commands come to: their end, a wait with what is left, a jump, or a stop
pub data End : Type 0 where
  Ends : (env : Env) → End
  Suspends : (env : Env) (pause : Pause) (rest : Command) → End
  Leaves : (env : Env) (jump : Jump) → End
  Stops : (reason : Halt) → End

pub record Out : Type 0 where
  pub assignments : List Assignment
  pub reports : List Report
  pub end : End

abbrev pub just : End → Out
just end = record { assignments = []; reports = []; end = end }

abbrev pub doing : List Assignment → List Report → End → Out
doing sent said end = record { assignments = sent; reports = said; end = end }

-- what came before, in front
abbrev pub behind : List Assignment → List Report → Out → Out
behind sent said o = record { assignments = sent ++ o.assignments; reports = said ++ o.reports; end = o.end }

abbrev pub end_after : Got Env → End
end_after (Ok e) = Ends e
end_after (Err s) = Stops s

abbrev pub done : Effect → Out
done f = doing f.assignments f.reports (end_after f.after)

-- a command after another one, which has come to this end
abbrev pub then_from : List Assignment → List Report → End → Command → (Env → Out) → Out
then_from sent said (Ends e) rest go = behind sent said (go e)
then_from sent said (Suspends e pause left) rest go = doing sent said (Suspends e pause (Then left rest))
then_from sent said (Leaves e jump) rest go = doing sent said (Leaves e jump)
then_from sent said (Stops s) rest go = doing sent said (Stops s)

abbrev pub and_then : Out → Command → (Env → Out) → Out
and_then o rest go = then_from o.assignments o.reports o.end rest go

-- ---- loops

abbrev pub same_label : Option ℕ → ℕ → Bool
same_label None l = false
same_label (Some m) l = m == l

-- whether a jump means the loop of a label: the innermost loop is met first
abbrev pub means_loop : Option ℕ → Option ℕ → Bool
means_loop label None = true
means_loop label (Some l) = same_label label l

-- a turn of a loop that a jump left
abbrev pub left_by : Option ℕ → List Assignment → List Report → Env → Jump → (Env → Out) → Out
left_by label sent said e (Exit l) go = if means_loop label l then doing sent said (Ends e) else doing sent said (Leaves e (Exit l))
left_by label sent said e (Next l) go = if means_loop label l then behind sent said (go e) else doing sent said (Leaves e (Next l))
left_by label sent said e (Return v) go = doing sent said (Leaves e (Return v))

-- the turns after a turn of a loop, which has come to this end
abbrev pub turn_from : Option ℕ → List Assignment → List Report → End → Command → (Env → Out) → Out
turn_from label sent said (Ends e) rest go = behind sent said (go e)
turn_from label sent said (Suspends e pause left) rest go = doing sent said (Suspends e pause (Turning label left rest))
turn_from label sent said (Leaves e jump) rest go = left_by label sent said e jump go
turn_from label sent said (Stops s) rest go = doing sent said (Stops s)

abbrev pub and_again : Option ℕ → Out → Command → (Env → Out) → Out
and_again label o rest go = turn_from label o.assignments o.reports o.end rest go

-- ---- running

abbrev pub with_got : {A : Type 0} → Got A → (A → Out) → Out
with_got (Ok x) go = go x
with_got (Err s) go = just (Stops s)

abbrev pub each : Option ℕ → ℕ → Command → (Env → Out) → List (Value Scalar) → Env → Out
each label parameter body go [] e = just (Ends e)
each label parameter body go (v ∷ vs) e =
    and_again label (go (with_value parameter v e)) (Each label parameter (λ _. Ok vs) body) (each label parameter body go vs)

abbrev pub run : Command → Env → Out
run Skip e = just (Ends e)
run (Act effect) e = done (effect e)
run (Then first second) e = and_then (run first e) second (run second)
run (Choose test first second) e = with_got (test e) (λ b. if b then run first e else run second e)
run (Each label parameter values body) e = with_got (values e) (λ vs. each label parameter body (run body) vs e)
run (While label test body) e =
    with_got (test e) (λ b. if b then and_again label (run body e) (While label test body) (λ _. just (Stops (halt_of Range))) else just (Ends e))
run (Turning label first again) e = and_again label (run first e) again (run again)
run (Wait pause) e = with_got (pause e) (λ p. just (Suspends e p Skip))
run (Leave jump) e = with_got (jump e) (λ j. just (Leaves e j))

-- commands one after another
abbrev pub in_order : List Command → Command
in_order [] = Skip
in_order (c ∷ []) = c
in_order (c ∷ d ∷ cs) = Then c (in_order (d ∷ cs))

-- what is evaluated, and changes nothing but the environment
abbrev pub acting : (Env → Got Env) → Command
acting f = Act (λ e. record { assignments = []; reports = []; after = f e })
