-- What each part of a tree keeps, so that the designs that elaboration makes are consistent: which signals declarations stand for, and which
-- drivers are assigned to.
use Rattle.std.specs.Prelude.{◌≡◌, ◌<◌, ℕ, suc, Bool, true, List, [], ◌∷◌, length, Option, Some, slice_get, IfSome, IfOk}
use Rattle.std.specs.List.{AllByRecursion}
use Rattle.vd_values.specs.declared.scalar.Scalar.{Scalar}
use Rattle.vd_trees.specs.declared.paths.Scope.{Scope}
use Rattle.vd_kernel.specs.declared.assignments.Assignment.{Assignment}
use Rattle.vd_composites.specs.declared.scalars.ScalarType.TheVariants.{Enumeration}
use Rattle.vd_composites.specs.Composites.{Value, One, Array, Fields, Items, none, item}
use Rattle.vd_environments.specs.Got.{Got}
use Rattle.vd_environments.specs.Environments.{ScalarSignal, Signals, Env}
use Rattle.vd_environments.specs.Commands.{Effect, Command, Skip, Act, Then, Choose, Each, While, Turning, Wait, Leave, End, Ends, Suspends, Leaves, Stops, Out}
use Rattle.vd_environments.specs.Processes.{Process, Running}
use Rattle.vd_meaning.specs.Names.{Named}
use Rattle.vd_meaning.specs.Facets.{Meaning, Waveform, Comparison}
use Rattle.vd_meaning.specs.Building.{ScalarObject, PortSource, Placed, Made, same_scalar_type, is_among, Built, State}
use Rattle.vd_meaning.specs.NodeFacets.{Actual, Instance, Hierarchy, Elaborating, PackageText, Unit', EntityUnit, ArchitectureUnit, PackageUnit, Part}
use Rattle.vd_consistency.specs.Consistency.{BeginsInType, ShareOut}

-- ---- signals of some sort: scalar signals that pass a test

abbrev mutual
  pub AreOf : {L : Type 0} → (L → Bool) → Value L → Type 0
  AreOf P (One x) = P x ≡ true
  AreOf P (Array b vs) = AllAreOf P vs
  AreOf P (Fields vs) = AllAreOf P vs

  pub AllAreOf : {L : Type 0} → (L → Bool) → Items L → Type 0
  AllAreOf P none = Unit {0}
  AllAreOf P (item v vs) = AreOf P v × AllAreOf P vs

-- all signals that declarations stand for
pub record HasSignals (P : ScalarSignal → Bool) (e : Env) : Type 0 where
  pub denoted : (d : ℕ) → IfSome (e.denotes d).signals (AreOf P)

-- Where all signals are of a sort, what is evaluated is: no signal comes from elsewhere.
abbrev pub Gives : (Env → Got Signals) → Type 0
Gives f = (P : ScalarSignal → Bool) (e : Env) → HasSignals P e → IfOk (f e) (AreOf P)

abbrev pub GivesAll : (Env → Got (List Signals)) → Type 0
GivesAll f = (P : ScalarSignal → Bool) (e : Env) → HasSignals P e → IfOk (f e) (AllByRecursion (AreOf P))

pub record KeepsName (p : Named) : Type 0 where
  pub signals : Gives p.signals
  pub prefix : IfSome p.prefix Gives
  pub inner : GivesAll p.inner

-- the number of a scalar signal of a sort
pub record IsNumberOf (P : ScalarSignal → Bool) (n : ℕ) : Type 0 where
  pub signal : ScalarSignal
  pub is_of : P signal ≡ true
  pub is : n ≡ signal.number

-- ---- commands

-- an environment with signals of a sort, in which these are the drivers
pub record IsEnv (P : ScalarSignal → Bool) (drivers : ℕ → Option ℕ) (e : Env) : Type 0 where
  pub has : HasSignals P e
  pub drives : e.drivers ≡ drivers

-- one of the drivers
pub record IsDriver (drivers : ℕ → Option ℕ) (k : ℕ) : Type 0 where
  pub of : ℕ
  pub is : drivers of ≡ Some k

abbrev pub AssignsTo : (ℕ → Option ℕ) → List Assignment → Type 0
AssignsTo drivers sent = AllByRecursion (λ a. IsDriver drivers a.driver) sent

pub record KeepsEffect (P : ScalarSignal → Bool) (drivers : ℕ → Option ℕ) (f : Effect) : Type 0 where
  pub assignments : AssignsTo drivers f.assignments
  pub after : IfOk f.after (IsEnv P drivers)

-- A command that keeps environments with signals of a sort, assigns to their drivers alone, and waits for signals of the sort.
abbrev pub KeepsIn : (ScalarSignal → Bool) → Command → Type 0
KeepsIn P Skip = Unit {0}
KeepsIn P (Act effect) = (drivers : ℕ → Option ℕ) (e : Env) → IsEnv P drivers e → KeepsEffect P drivers (effect e)
KeepsIn P (Then first second) = KeepsIn P first × KeepsIn P second
KeepsIn P (Choose test first second) = KeepsIn P first × KeepsIn P second
KeepsIn P (Each label parameter values body) = KeepsIn P body
KeepsIn P (While label test body) = KeepsIn P body
KeepsIn P (Turning label first again) = KeepsIn P first × KeepsIn P again
KeepsIn P (Wait pause) = (e : Env) → HasSignals P e → IfOk (pause e) (λ p. AllByRecursion (IsNumberOf P) p.on)
KeepsIn P (Leave jump) = Unit {0}

abbrev pub Keeps : Command → Type 0
Keeps c = (P : ScalarSignal → Bool) → KeepsIn P c

-- what changes environments, and keeps signals of a sort and drivers
abbrev pub KeepsEnv : (ScalarSignal → Bool) → (Env → Env) → Type 0
KeepsEnv P f = (drivers : ℕ → Option ℕ) (e : Env) → IsEnv P drivers e → IsEnv P drivers (f e)

abbrev pub KeepsEnd : (ScalarSignal → Bool) → (ℕ → Option ℕ) → End → Type 0
KeepsEnd P drivers (Ends e) = IsEnv P drivers e
KeepsEnd P drivers (Suspends e pause rest) = IsEnv P drivers e × AllByRecursion (IsNumberOf P) pause.on × KeepsIn P rest
KeepsEnd P drivers (Leaves e jump) = IsEnv P drivers e
KeepsEnd P drivers (Stops s) = Unit {0}

pub record KeepsOut (P : ScalarSignal → Bool) (drivers : ℕ → Option ℕ) (o : Out) : Type 0 where
  pub assignments : AssignsTo drivers o.assignments
  pub end : KeepsEnd P drivers o.end

-- ---- processes and meanings

-- a process under way, with these drivers
pub record IsRunning (P : ScalarSignal → Bool) (drivers : ℕ → Option ℕ) (p : Running) : Type 0 where
  pub of_env : IsEnv P drivers p.env
  pub of_body : KeepsIn P p.body
  pub of_rest : KeepsIn P p.rest
  pub of_list : AllByRecursion (IsNumberOf P) p.on

-- a process that is sensitive to signals of a sort, and whose targets are of it
pub record IsProcess (P : ScalarSignal → Bool) (p : Process) : Type 0 where
  pub declarations : AllByRecursion Keeps p.declarations
  pub settling : KeepsEnv P p.settling
  pub statements : Keeps p.statements
  pub sensitivity : IfSome p.sensitivity (λ f. (e : Env) → HasSignals P e → IfOk (f e) (AllByRecursion (AreOf P)))
  pub targets : (e : Env) → HasSignals P e → IfOk (p.targets e) (AllByRecursion (AreOf P))

abbrev pub KeepsProcess : Process → Type 0
KeepsProcess p = (P : ScalarSignal → Bool) → IsProcess P p

-- by the facets of a meaning that matter
pub record KeepsFacets (reads : Env → Got (List Signals)) (name : Named) (piece : Named → Named) (chosen : (Waveform → Command) → Command) (command : Option ℕ → Command)
    (otherwise : Command → Command) (cases : Comparison → (Env → Got (Value Scalar)) → Command) (declarations : List Command) (settling : Env → Env) (targets : Env → Got (List Signals))
    (listening : (Env → Got (List Signals)) → Option (Env → Got (List Signals))) (processes : List Process) : Type 0 where
  pub of_reads : GivesAll reads
  pub of_name : KeepsName name
  pub of_piece : (p : Named) → KeepsName p → KeepsName (piece p)
  pub of_chosen : (act : Waveform → Command) → ((w : Waveform) → Keeps (act w)) → Keeps (chosen act)
  pub of_command : (label : Option ℕ) → Keeps (command label)
  pub of_otherwise : (c : Command) → Keeps c → Keeps (otherwise c)
  pub of_cases : (c : Comparison) (selector : Env → Got (Value Scalar)) → Keeps (cases c selector)
  pub of_declarations : AllByRecursion Keeps declarations
  pub of_settling : (P : ScalarSignal → Bool) → KeepsEnv P settling
  pub of_targets : GivesAll targets
  pub of_listening : (f : Env → Got (List Signals)) → GivesAll f → IfSome (listening f) GivesAll
  pub of_processes : AllByRecursion KeepsProcess processes

abbrev pub KeepsMeaning : Meaning → Type 0
KeepsMeaning m = KeepsFacets m.reads m.name m.piece m.chosen m.command m.otherwise m.cases m.declarations m.settling m.targets m.listening m.processes

-- ---- designs so far

-- the type and the value that a signal begins with go together, and a resolved one is of STD_ULOGIC
pub record BeginsWell (x : ScalarObject) : Type 0 where
  pub in_type : BeginsInType x
  pub logic : x.make.is_resolved ≡ true → same_scalar_type x.of_type (Enumeration 9) ≡ true

-- Of signals of which the first has a number, each actual is an older one.
abbrev pub HaveOlder : ℕ → List ScalarObject → Type 0
HaveOlder n [] = Unit {0}
HaveOlder n (x ∷ xs) = IfSome x.actual (λ a. a < n) × HaveOlder (suc n) xs

-- A port that is a source of a signal is a newer one of the same type.
pub record IsTied (signals : List ScalarObject) (s : PortSource) : Type 0 where
  pub newer : s.of < s.port
  pub there : s.port < length signals
  pub one_type : (x y : ScalarObject) → slice_get signals s.port ≡ Some x → slice_get signals s.of ≡ Some y → same_scalar_type x.of_type y.of_type ≡ true

-- a process that stays under way, whatever signals are added
abbrev pub StaysRunning : List ScalarObject → Running → Type 0
StaysRunning signals p = (P : ScalarSignal → Bool) → ((x : ScalarSignal) → is_among signals x ≡ true → P x ≡ true) → IsRunning P p.env.drivers p

-- by what a design has so far
pub record AreSound (signals : List ScalarObject) (sources : List PortSource) (driven : List ℕ) (processes : List Placed) : Type 0 where
  pub of_driven : AllByRecursion (λ n. n < length signals) driven
  pub of_sources : AllByRecursion (IsTied signals) sources
  pub of_actuals : HaveOlder 0 signals
  pub of_signals : AllByRecursion BeginsWell signals
  pub of_drivers : ShareOut 0 (length driven) processes
  pub of_processes : AllByRecursion (λ p. StaysRunning signals p.running) processes

abbrev pub IsSound : Made → Type 0
IsSound m = AreSound m.signals m.sources m.driven m.processes

-- A design so far, in an environment whose signals are there.
pub record IsState (s : State) : Type 0 where
  pub has : HasSignals (is_among s.made.signals) s.env
  pub sound : IsSound s.made

-- the signals that were there are there
abbrev pub Grows : Made → Made → Type 0
Grows m n = (x : ScalarSignal) → is_among m.signals x ≡ true → is_among n.signals x ≡ true

pub record IsGrown (m : Made) (s : State) : Type 0 where
  pub state : IsState s
  pub grows : Grows m s.made

abbrev pub Builds : Made → Built State → Type 0
Builds m f = IfOk f (IsGrown m)

-- ---- what elaboration does

pub record KeepsInstance (x : Instance) : Type 0 where
  pub ports : AllByRecursion (λ a. KeepsMeaning a.meaning) x.ports

pub record KeepsHierarchy (h : Hierarchy) : Type 0 where
  pub ahead : (scope : Scope) (x : Instance) → KeepsInstance x → (s : State) → IsState s → Builds s.made (h.ahead scope x s)
  pub instance : (scope : Scope) (x : Instance) → KeepsInstance x → (s : State) → IsState s → Builds s.made (h.instance scope x s)

abbrev pub KeepsElaborating : Elaborating → Type 0
KeepsElaborating f = (h : Hierarchy) → KeepsHierarchy h → (scope : Scope) (s : State) → IsState s → Builds s.made (f h scope s)

pub record KeepsPackage (p : PackageText) : Type 0 where
  pub of_declaring : KeepsElaborating p.declaring
  pub of_declarations : AllByRecursion Keeps p.declarations

abbrev pub KeepsUnit : Unit' → Type 0
KeepsUnit (EntityUnit name generics ports) = Unit {0}
KeepsUnit (ArchitectureUnit name entity region) = KeepsElaborating region
KeepsUnit (PackageUnit p) = KeepsPackage p

-- by the facets of a part that matter
pub record KeepsPartFacets (meaning : Meaning) (actuals : List Actual) (declaring region : Elaborating) (ahead elaborating : List ℕ → Elaborating)
    (otherwise : List ℕ → Elaborating → Elaborating) (cases : List ℕ → (Env → Got (Value Scalar)) → Elaborating) (units : List Unit') : Type 0 where
  pub of_meaning : KeepsMeaning meaning
  pub of_actuals : AllByRecursion (λ a. KeepsMeaning a.meaning) actuals
  pub of_declaring : KeepsElaborating declaring
  pub of_region : KeepsElaborating region
  pub of_ahead : (label : List ℕ) → KeepsElaborating (ahead label)
  pub of_elaborating : (label : List ℕ) → KeepsElaborating (elaborating label)
  pub of_otherwise : (label : List ℕ) (f : Elaborating) → KeepsElaborating f → KeepsElaborating (otherwise label f)
  pub of_cases : (label : List ℕ) (selector : Env → Got (Value Scalar)) → KeepsElaborating (cases label selector)
  pub of_units : AllByRecursion KeepsUnit units

abbrev pub KeepsPart : Part → Type 0
KeepsPart p = KeepsPartFacets p.meaning p.actuals p.declaring p.region p.ahead p.elaborating p.otherwise p.cases p.units
