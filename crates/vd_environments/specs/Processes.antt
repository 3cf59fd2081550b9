-- Processes: how each is elaborated at its place, and how the kernel runs it, from its start or a wait to the next wait, and at the end of its
-- statements from their beginning. (IEEE 1076, process statement; wait statement; drivers; elaboration of processes.)
use Rattle.std.specs.Prelude.{ℕ, suc, ◌==◌, Bool, true, List, [], ◌∷◌, ◌++◌, map, Option, Some, None, Ok, Err, if◌then◌else◌}
use Rattle.std.specs.List.{list_any, flat_map}
use Rattle.vd_values.specs.declared.scalar.StopKind.{StopKind}
use Rattle.vd_values.specs.declared.scalar.StopKind.TheVariants as kind
use Rattle.vd_trees.specs.declared.traces.Report.{Report}
use Rattle.vd_kernel.specs.declared.assignments.Assignment.{Assignment}
use Rattle.vd_kernel.specs.Models.{View, Cause, Start, Wake, Ending, Waits, Turn, Shape, Model}
use Rattle.vd_kernel.specs.Models.{Stops as StopsAll}
use Rattle.vd_composites.specs.Stops.{◌>>=◌}
use Rattle.vd_composites.specs.Composites.{leaves}
use Rattle.vd_environments.specs.Got.{Got, senseless}
use Rattle.vd_environments.specs.Environments.{Signals, Env, seeing, inside}
use Rattle.vd_environments.specs.Commands.{Command, Skip, Then, Wait, End, Ends, Suspends, Leaves, Stops, Out, doing, behind, run}

-- ---- runs

-- a process: what its names stand for, its statements, what is left of them, and what it waits for
pub record Running : Type 0 where
  pub env : Env
  pub body : Command
  pub rest : Command
  pub until : Env → Got Bool
  pub on : List ℕ
  pub timeout : Option ℕ

-- what is left of the statements, and at their end the statements from the first on
abbrev pub from_first : List Assignment → List Report → End → Command → Out
from_first sent said (Ends e) body = behind sent said (run body e)
from_first sent said (Suspends e pause left) body = doing sent said (Suspends e pause left)
from_first sent said (Leaves e jump) body = doing sent said (Leaves e jump)
from_first sent said (Stops s) body = doing sent said (Stops s)

abbrev pub going_on : Command → Out → Out
going_on body o = from_first o.assignments o.reports o.end body

-- A failure is reported, wherever it comes from, and then it stops the run. (severity 3)
abbrev pub failure_report : StopKind → List ℕ → List Report
failure_report kind.Failure text = record { severity = 3; text = text } ∷ []
failure_report _ text = []

abbrev pub last_report : End → List Report
last_report (Stops s) = failure_report s.kind s.text
last_report _ = []

-- Each process has a wait in its own list of statements, and leaves it by no jump.
abbrev pub ending_of : Command → End → Ending Running
ending_of body (Suspends e pause left) =
    Waits (record {
      state = record { env = e; body = body; rest = left; until = pause.until; on = pause.on; timeout = pause.timeout };
      on = pause.on;
      timeout = pause.timeout;
    })
ending_of body (Stops s) = StopsAll s.kind
ending_of body (Ends e) = StopsAll kind.Range
ending_of body (Leaves e jump) = StopsAll kind.Range

abbrev pub turn_of : Command → Out → Turn Running
turn_of body o = record { assignments = o.assignments; reports = o.reports ++ last_report o.end; ending = ending_of body o.end }

abbrev pub resumed : Running → View → Turn Running
resumed p v = turn_of p.body (going_on p.body (run p.rest (seeing v p.env)))

abbrev pub waiting : Running → Turn Running
waiting p = record { assignments = []; reports = []; ending = Waits (record { state = p; on = p.on; timeout = p.timeout }) }

-- after an event the condition decides
abbrev pub resumed_if : Running → View → Got Bool → Turn Running
resumed_if p v (Ok b) = if b then resumed p v else waiting p
resumed_if p v (Err s) = record { assignments = []; reports = failure_report s.kind s.text; ending = StopsAll s.kind }

-- A timeout that is due resumes a process, whatever its condition says.
abbrev pub step : Running → Cause → View → Turn Running
step p Start v = resumed p v
step p (Wake event due) v = if due then resumed p v else resumed_if p v (p.until (seeing v p.env))

abbrev pub model : Shape → List Running → Model Running
model shape ps = record { shape = shape; processes = ps; step = step }

-- ---- elaboration

-- A process before its elaboration. The names that it is sensitive to are those of its list, or those that it reads; a process without a
-- list has none of its own.
pub record Process : Type 0 where
  pub declarations : List Command
  -- what is declared for its names, which are evaluated before its declarations are
  pub settling : Env → Env
  pub statements : Command
  pub sensitivity : Option (Env → Got (List Signals))
  -- the longest static prefixes of the targets of its signal assignments, in the order of the text
  pub targets : Env → Got (List Signals)

-- the numbers of the scalar signals of some signals, in order
abbrev pub numbers_of : List Signals → List ℕ
numbers_of signals = flat_map (λ s. map (λ x. x.number) (leaves s)) signals

abbrev pub once : List ℕ → List ℕ → List ℕ
once before [] = before
once before (n ∷ ns) = if list_any (λ m. m == n) before then once before ns else once (before ++ n ∷ []) ns

-- its drivers: one for each scalar signal of its targets
abbrev pub driven_by : List Signals → List ℕ
driven_by targets = once [] (numbers_of targets)

-- of these, of which the first has a number, the number of one
abbrev pub place_from : ℕ → List ℕ → ℕ → Option ℕ
place_from k [] n = None
place_from k (m ∷ ms) n = if m == n then Some k else place_from (suc k) ms n

-- What a declaration declares for the names of its process, where one that stops declares nothing. An index of a target or of a name in a list has
-- its value there if it is locally static, although the declarations come later: neither the constants in it stop, nor the subtypes whose bounds it has.
abbrev pub declared_by : End → Env → Env
declared_by (Ends f) e = f
declared_by _ e = e

abbrev pub settled_by : Command → Env → Env
settled_by c e = declared_by (run c e).end e

abbrev pub names_of : Option (Env → Got (List Signals)) → Env → Got (List Signals)
names_of None e = Ok []
names_of (Some names) e = names e

-- The statements; a process with a list waits for its names at their end.
abbrev pub body_of : Command → Option (Env → Got (List Signals)) → List Signals → Command
body_of statements None names = statements
body_of statements (Some list) names =
    Then statements (Wait (λ _. Ok (record { on = numbers_of names; until = λ _. Ok true; timeout = None })))

abbrev pub declared_end : End → Got Env
declared_end (Ends e) = Ok e
declared_end (Stops s) = Err s
declared_end (Suspends e pause rest) = senseless
declared_end (Leaves e jump) = senseless

-- declarations in order, up to the first stop
abbrev pub declared : List Command → Env → Got Env
declared [] e = Ok e
declared (c ∷ cs) e = declared_end (run c e).end >>= declared cs

-- an elaborated process, with the scalar signals that it drives
pub record Elaborated : Type 0 where
  pub running : Running
  pub driven : List ℕ

abbrev pub started : Env → Command → Running
started e body = record { env = e; body = body; rest = Skip; until = λ _. Ok true; on = []; timeout = None }

abbrev pub with_drivers : ℕ → List ℕ → Env → Env
with_drivers first driven e = record (inside e) { drivers = place_from first driven }

-- Elaboration of a process at its place: the names that it is sensitive to, then its targets, then its declarations. The first of its drivers
-- has this number.
abbrev pub elaborated : ℕ → Process → Env → Got Elaborated
elaborated first p e =
    names_of p.sensitivity (p.settling (inside e)) >>= λ names.
    p.targets (p.settling (inside e)) >>= λ targets.
    declared p.declarations (with_drivers first (driven_by targets) e) >>= λ f.
    Ok (record { running = started f (body_of p.statements p.sensitivity names); driven = driven_by targets })
