-- Orders of signals in which their driving or their effective values can be computed one after another.
use Rattle.std.specs.Prelude.{◌≡◌, ℕ, ◌<◌, Bool, true, List, [], ◌∷◌, length, slice_index, slice_index_or, option_to_list}
use Rattle.std.specs.List.{AllByRecursion, list_all}
use Rattle.vd_kernel.specs.declared.assignments.Source.{Source}
use Rattle.vd_kernel.specs.declared.assignments.Source.TheVariants.{Driver as ByDriver, Port as ByPort}
use Rattle.vd_kernel.specs.declared.orders.Along.{Along}
use Rattle.vd_kernel.specs.declared.orders.Along.TheVariants.{Sources, Actuals}
use Rattle.vd_kernel.specs.Models.{Signal, Shape, no_signal}
use Rattle.vd_kernel.specs.Equations.{HasNoRing}

-- a design of these signals, where its drivers don't matter
abbrev pub shape_of : List Signal → Shape
shape_of signals = record { signals = signals; driven = []; inputs = [] }

-- Neither the sources nor the actuals of a design form a ring.
pub record IsRingFree (m : Shape) : Type 0 where
  pub inwards : ℕ → ℕ
  pub outwards : ℕ → ℕ
  pub ranked : HasNoRing inwards outwards m

abbrev pub ports_of : List Source → List ℕ
ports_of [] = []
ports_of (ByDriver d ∷ ss) = ports_of ss
ports_of (ByPort j ∷ ss) = j ∷ ports_of ss

-- The signals whose values a signal's value is made from: the ports among its sources for the driving value, its actual for the
-- effective one.
abbrev pub needs : Along → Signal → List ℕ
needs Sources s = ports_of s.sources
needs Actuals s = option_to_list s.actual

-- whether a signal is placed; one past the last need not be
abbrev pub is_placed : List Bool → ℕ → Bool
is_placed placed i = slice_index_or placed i true

-- whether all that a signal needs is placed
abbrev pub is_ready : Along → List Bool → Signal → Bool
is_ready along placed s = list_all (is_placed placed) (needs along s)

-- a signal stands in an order before this place
abbrev pub StandsBefore : List ℕ → ℕ → ℕ → Type 0
StandsBefore order k i = (l : ℕ) × (l < k) × (slice_index order l ≡ i)

-- an order of signals, each behind all that it needs
pub record IsSorted (along : Along) (signals : List Signal) (order : List ℕ) : Type 0 where
  pub within : (k : ℕ) → k < length order → slice_index order k < length signals
  pub behind : (k : ℕ) → k < length order
      → AllByRecursion (λ j. j < length signals → StandsBefore order k j) (needs along (slice_index_or signals (slice_index order k) no_signal))

-- and all signals stand in it
pub record IsOrder (along : Along) (signals : List Signal) (order : List ℕ) : Type 0 where
  pub sorted : IsSorted along signals order
  pub whole : (i : ℕ) → i < length signals → StandsBefore order (length order) i

-- an order of those signals that are placed
pub record IsPlacing (along : Along) (signals : List Signal) (placed : List Bool) (order : List ℕ) : Type 0 where
  pub sorted : IsSorted along signals order
  pub long : length placed ≡ length signals
  pub known : (i : ℕ) → i < length signals → is_placed placed i ≡ true → StandsBefore order (length order) i

-- what a walk past all signals comes to that places each one that is ready
pub record IsWalked (along : Along) (signals : List Signal) (old new : List Bool) (upto : ℕ) : Type 0 where
  pub stay : (i : ℕ) → is_placed old i ≡ true → is_placed new i ≡ true
  pub ready : (i : ℕ) → i < upto → is_ready along old (slice_index_or signals i no_signal) ≡ true → is_placed new i ≡ true
