-- What it is for an elaborated design to be consistent. (IEEE 1076, elaboration of a design hierarchy; drivers; driving and effective values.)
use Rattle.std.specs.Prelude.{◌≡◌, ◌<◌, ◌+◌, ◌==◌, ℕ, suc, true, ◌&&◌, List, [], ◌∷◌, length, Option, Some, None, slice_get, IfSome, if◌then◌else◌}
use Rattle.std.specs.List.{AllByRecursion, AllZip}
use Rattle.vd_values.specs.declared.scalar.Scalar.{Scalar}
use Rattle.vd_values.specs.declared.scalar.Scalar.TheVariants.{Literal}
use Rattle.vd_trees.specs.declared.revision.Revision.{Revision}
use Rattle.vd_kernel.specs.declared.assignments.Source.{Source}
use Rattle.vd_kernel.specs.declared.assignments.Source.TheVariants.{Driver, Port}
use Rattle.vd_kernel.specs.Models.{View, Cause, Ending, Waits, Stops, Signal, Shape, signal_at}
use Rattle.vd_kernel.specs.Equations.{HasNoRing}
use Rattle.vd_kernel.specs.Orders.{IsRingFree, ports_of}
use Rattle.vd_kernel.specs.Orders.{shape_of as undriven_shape_of}
use Rattle.vd_composites.specs.Ranges.{is_within}
use Rattle.vd_composites.specs.Scalars.{position_of, is_of, whole_range}
use Rattle.vd_resolved.specs.Trees.{ResolvedTree}
use Rattle.vd_environments.specs.Processes.{Running, step}
use Rattle.vd_meaning.specs.Building.{is_output, ScalarObject, PortSource, Placed, Made}
use Rattle.vd_meaning.specs.Elaborations.{Top, elaboration, Elaborates, shape_of}

-- ---- its signals are those of its list, in order

pub record IsSignalOf (x : ScalarObject) (s : Signal) : Type 0 where
  pub initial : s.initial ≡ x.initial
  pub is_resolved : s.is_resolved ≡ x.make.is_resolved
  pub actual : s.actual ≡ x.actual
  pub is_out : s.is_out ≡ is_output x.mode

-- ---- every number is that of a signal or a driver

abbrev pub IsSourceIn : Shape → Source → Type 0
IsSourceIn m (Driver k) = k < length m.driven
IsSourceIn m (Port j) = j < length m.signals

pub record IsInRange (m : Shape) : Type 0 where
  pub driven : AllByRecursion (λ n. n < length m.signals) m.driven
  pub inputs : AllByRecursion (λ n. n < length m.signals) m.inputs
  pub sources : (n : ℕ) → AllByRecursion (IsSourceIn m) (signal_at m n).sources
  pub actual : (n a : ℕ) → (signal_at m n).actual ≡ Some a → a < length m.signals

-- ---- the sources of its signals, the signals that its drivers drive and its inputs say the same

-- the drivers among some sources
abbrev pub drivers_among : List Source → List ℕ
drivers_among [] = []
drivers_among (Driver k ∷ ss) = k ∷ drivers_among ss
drivers_among (Port j ∷ ss) = drivers_among ss

-- the places at which a number stands in a list, of which the first has a number
abbrev pub places_of : ℕ → ℕ → List ℕ → List ℕ
places_of n k [] = []
places_of n k (m ∷ ms) = if m == n then k ∷ places_of n (suc k) ms else places_of n (suc k) ms

-- the ports that are sources of a signal
abbrev pub tied_to : ℕ → List PortSource → List ℕ
tied_to n [] = []
tied_to n (p ∷ ps) = if p.of == n then p.port ∷ tied_to n ps else tied_to n ps

-- A port that is a source of a signal is a newer signal.
pub record IsNewer (m : Shape) (p : PortSource) : Type 0 where
  pub newer : p.of < p.port
  pub there : p.port < length m.signals

-- Driver k is a source of signal n exactly where the k-th driver drives n; behind the drivers of the processes come those of the inputs.
pub record SaysTheSame (sources : List PortSource) (m : Shape) : Type 0 where
  pub drivers : (n : ℕ) → n < length m.signals → drivers_among (signal_at m n).sources ≡ places_of n 0 m.driven
  pub ports : (n : ℕ) → n < length m.signals → ports_of (signal_at m n).sources ≡ tied_to n sources
  pub newer : AllByRecursion (IsNewer m) sources
  pub inputs : (n k : ℕ) → (signal_at m n).input ≡ Some k → (j : ℕ) × (k ≡ length m.driven + j) × (slice_get m.inputs j ≡ Some n)
  pub outside : (n j : ℕ) → slice_get m.inputs j ≡ Some n → (signal_at m n).input ≡ Some (length m.driven + j)

-- ---- what its signals begin with

-- one of the nine values of STD_ULOGIC
abbrev pub IsLogic : Scalar → Type 0
IsLogic v = (p : ℕ) × (v ≡ Literal p) × (p < 9)

-- The initial value of a signal is one of its type.
abbrev pub BeginsInType : ScalarObject → Type 0
BeginsInType x = (is_of x.of_type x.initial && is_within (whole_range x.of_type) (position_of x.initial)) ≡ true

-- A resolved signal, and each port that is a source of it, begins with a value of STD_ULOGIC.
pub record BeginWithLogic (m : Shape) : Type 0 where
  pub itself : (n : ℕ) → (signal_at m n).is_resolved ≡ true → IsLogic (signal_at m n).initial
  pub sources : (n : ℕ) → (signal_at m n).is_resolved ≡ true → AllByRecursion (λ j. IsLogic (signal_at m j).initial) (ports_of (signal_at m n).sources)

-- ---- its processes assign to drivers of their own alone

-- what a process sees and why it runs, at one of its turns
pub record Resumption : Type 0 where
  pub cause : Cause
  pub view : View

-- the state in which a turn leaves a process, where it waits
abbrev pub left_waiting : Ending Running → Option Running
left_waiting (Waits p) = Some p.state
left_waiting (Stops kind) = None

abbrev pub then_turn : Option Running → Resumption → Option Running
then_turn None r = None
then_turn (Some p) r = left_waiting (step p r.cause r.view).ending

-- and after some turns, whatever it sees in each
abbrev pub after_turns : Option Running → List Resumption → Option Running
after_turns p [] = p
after_turns p (r ∷ rs) = after_turns (then_turn p r) rs

-- one of so many drivers, from a first one on
pub record IsFrom (first count k : ℕ) : Type 0 where
  pub place : ℕ
  pub is_within : place < count
  pub is : k ≡ first + place

abbrev pub AssignsWithin : ℕ → ℕ → Running → Type 0
AssignsWithin first count p = (r : Resumption) → AllByRecursion (λ a. IsFrom first count a.driver) (step p r.cause r.view).assignments

-- At each state that a run can reach, whatever is seen then, the process assigns to these drivers alone.
abbrev pub OwnsDrivers : ℕ → ℕ → Running → Type 0
OwnsDrivers first count p = (rs : List Resumption) → IfSome (after_turns (Some p) rs) (AssignsWithin first count)

-- Processes share so many drivers out: the first one has the first few, and so on.
abbrev pub ShareOut : ℕ → ℕ → List Placed → Type 0
ShareOut first total [] = first ≡ total
ShareOut first total (p ∷ ps) = (count : ℕ) × OwnsDrivers first count p.running × ShareOut (first + count) total ps

-- And so no turn names a driver that isn't there.
abbrev pub AssignsBelow : ℕ → Running → Type 0
AssignsBelow total p = (r : Resumption) → AllByRecursion (λ a. a.driver < total) (step p r.cause r.view).assignments

abbrev pub StaysBelow : ℕ → Placed → Type 0
StaysBelow total p = (rs : List Resumption) → IfSome (after_turns (Some p.running) rs) (AssignsBelow total)

-- ---- its processes wait for its signals alone

abbrev pub waited_for : Ending Running → List ℕ
waited_for (Waits p) = p.on
waited_for (Stops kind) = []

abbrev pub WaitsBelow : ℕ → Running → Type 0
WaitsBelow total p = (r : Resumption) → AllByRecursion (λ n. n < total) (waited_for (step p r.cause r.view).ending)

abbrev pub StaysWaiting : ℕ → Placed → Type 0
StaysWaiting total p = (rs : List Resumption) → IfSome (after_turns (Some p.running) rs) (WaitsBelow total)

-- ---- all of it

-- An actual has a smaller number than its port, and a signal a smaller number than each port that is a source of it: so numbers are ranks,
-- and neither sources nor actuals form a ring, as a simulation asks for.
pub record IsConsistent (made : Made) : Type 0 where
  pub signals : AllZip IsSignalOf made.signals (shape_of made).signals
  pub in_range : IsInRange (shape_of made)
  pub same : SaysTheSame made.sources (shape_of made)
  pub ranked : HasNoRing (λ n. n) (λ n. n) (shape_of made)
  pub ring_free : IsRingFree (undriven_shape_of (shape_of made).signals)
  pub begin : AllByRecursion BeginsInType made.signals
  pub logic : BeginWithLogic (shape_of made)
  pub own : ShareOut 0 (length made.driven) made.processes
  pub below : AllByRecursion (StaysBelow (length made.driven)) made.processes
  pub waits : AllByRecursion (StaysWaiting (length made.signals)) made.processes

-- Each design that elaboration gives is consistent. Nothing is assumed of the tree or the top.
abbrev pub DesignsAreConsistent : Type 0
DesignsAreConsistent = (r : Revision) (tree : ResolvedTree) (top : Top) (made : Made) → elaboration r tree top ≡ Elaborates made → IsConsistent made
