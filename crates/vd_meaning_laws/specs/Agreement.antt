-- When two commands do the same, where the declarations of the one have other numbers in the other. The relation is about what is done: the other
-- may have further declarations and be written in another way.
use Rattle.std.specs.Prelude.{◌≡◌, ℕ, zero, suc, ◌==◌, Bool, true, false, Option, Some, None, Ok, Err}
use Rattle.vd_environments.specs.Got.{Got}
use Rattle.vd_environments.specs.Environments.{Denotation, Env}
use Rattle.vd_environments.specs.Commands.{Effect, Pause, Jump, Exit, Next, Return, Command, End, Ends, Suspends, Leaves, Stops, Out, run}
use Rattle.vd_environments.specs.Processes.{Running}

-- New numbers for declarations, and further numbers under which all stays as it was in the beginning.
pub record Link : Type 0 where
  pub number : ℕ → ℕ
  pub kept : ℕ → Bool
  pub base : ℕ → Denotation

-- No two declarations get one number, and none gets one of those under which all stays. The first declaration stays the first.
pub record IsApart (l : Link) : Type 0 where
  pub first : l.number 0 ≡ 0
  pub same : (m n : ℕ) → (l.number m == l.number n) ≡ (m == n)
  pub apart : (k n : ℕ) → l.kept k ≡ true → (k == l.number n) ≡ false

-- an environment as it is under the old numbers
abbrev pub through : Link → Env → Env
through l e = record e { denotes = λ n. e.denotes (l.number n) }

-- under the kept numbers all is as it was
abbrev pub Keeps : Link → Env → Type 0
Keeps l e = (k : ℕ) → l.kept k ≡ true → e.denotes k ≡ l.base k

-- an environment of the one, and of the other, in which all declarations stand for the same
pub record Agree (l : Link) (e e' : Env) : Type 0 where
  pub same : through l e' ≡ e
  pub keeps : Keeps l e'

abbrev pub number_in : Link → Option ℕ → Option ℕ
number_in l None = None
number_in l (Some n) = Some (l.number n)

abbrev pub jump_in : Link → Jump → Jump
jump_in l (Exit loop) = Exit (number_in l loop)
jump_in l (Next loop) = Next (number_in l loop)
jump_in l (Return v) = Return v

-- An evaluation that comes to the same under other numbers, in each environment in which the kept numbers stand for what they stood for. So the other one may
-- name what is kept, as a function that a pass adds.
abbrev pub Alike : {A : Type 0} → Link → (Env → A) → (Env → A) → Type 0
Alike l f g = (e : Env) → Keeps l e → g e ≡ f (through l e)

-- ---- commands

abbrev pub AgreeAfter : Link → Got Env → Got Env → Type 0
AgreeAfter l (Ok e) (Ok e') = Agree l e e'
AgreeAfter l (Ok e) (Err s) = ⊥
AgreeAfter l (Err s) (Ok e) = ⊥
AgreeAfter l (Err s) (Err t) = t ≡ s

pub record AlikeEffect (l : Link) (f g : Effect) : Type 0 where
  pub assignments : g.assignments ≡ f.assignments
  pub reports : g.reports ≡ f.reports
  pub after : AgreeAfter l f.after g.after

pub record AlikePause (l : Link) (p q : Pause) : Type 0 where
  pub on : q.on ≡ p.on
  pub until : Alike l p.until q.until
  pub timeout : q.timeout ≡ p.timeout

abbrev pub AlikePauses : Link → Got Pause → Got Pause → Type 0
AlikePauses l (Ok p) (Ok q) = AlikePause l p q
AlikePauses l (Ok p) (Err s) = ⊥
AlikePauses l (Err s) (Ok p) = ⊥
AlikePauses l (Err s) (Err t) = t ≡ s

-- two commands are left with what is again related
pub record AlikeSuspended (l : Link) (R : Command → Command → Type 0) (e e' : Env) (p q : Pause) (a b : Command) : Type 0 where
  pub env : Agree l e e'
  pub pause : AlikePause l p q
  pub rest : R a b

abbrev pub AlikeEnds : Link → (Command → Command → Type 0) → End → End → Type 0
AlikeEnds l R (Ends e) (Ends e') = Agree l e e'
AlikeEnds l R (Suspends e p a) (Suspends e' q b) = AlikeSuspended l R e e' p q a b
AlikeEnds l R (Leaves e j) (Leaves e' k) = Agree l e e' × (k ≡ jump_in l j)
AlikeEnds l R (Stops s) (Stops t) = t ≡ s
AlikeEnds l R _ _ = ⊥

pub record AlikeOut (l : Link) (R : Command → Command → Type 0) (o o' : Out) : Type 0 where
  pub assignments : o'.assignments ≡ o.assignments
  pub reports : o'.reports ≡ o.reports
  pub end : AlikeEnds l R o.end o'.end

-- two commands do the same up to so many waits, however they are written
abbrev pub AlikeUpTo : Link → ℕ → Command → Command → Type 0
AlikeUpTo l zero c d = Unit {0}
AlikeUpTo l (suc n) c d = (e e' : Env) → Agree l e e' → AlikeOut l (AlikeUpTo l n) (run c e) (run d e')

-- two commands do the same
abbrev pub AlikeCommands : Link → Command → Command → Type 0
AlikeCommands l c d = (n : ℕ) → AlikeUpTo l n c d

-- ---- processes that do the same

pub record AlikeRunning (l : Link) (p q : Running) : Type 0 where
  pub env : Agree l p.env q.env
  pub body : AlikeCommands l p.body q.body
  pub rest : AlikeCommands l p.rest q.rest
  pub until : Alike l p.until q.until
  pub on : q.on ≡ p.on
  pub timeout : q.timeout ≡ p.timeout
