-- The equations of driving and effective values, and designs in which neither sources nor actuals form a ring.
use Rattle.std.specs.Prelude.{◌≡◌, ℕ, ◌<◌, List, Some, map}
use Rattle.std.specs.List.{AllByRecursion}
use Rattle.vd_values.specs.declared.scalar.Scalar.{Scalar}
use Rattle.vd_kernel.specs.declared.assignments.Source.{Source}
use Rattle.vd_kernel.specs.declared.assignments.Source.TheVariants.{Driver as ByDriver, Port as ByPort}
use Rattle.vd_kernel.specs.Drivers.{Driver}
use Rattle.vd_kernel.specs.Models.{Shape, Stimulus, signal_at}
use Rattle.vd_kernel.specs.Values.{sources_of, source_value, value_from, driving, through, effective}

-- These are the driving and effective values of all signals: each is what the values of its sources or its actual make it (IEEE
-- 1076-1993, 12.6.2). There is no bound on ports inside ports here.
pub record AreValues (m : Shape) (given : Stimulus) (ds : List Driver) (own outer : ℕ → Scalar) : Type 0 where
  pub own_is : (i : ℕ) → own i ≡ value_from (signal_at m i) (map (source_value ds own) (sources_of (signal_at m i) (given i)))
  pub outer_is : (i : ℕ) → outer i ≡ through (signal_at m i).actual outer (own i)

-- a source of a signal is a driver, or a port of a greater rank
abbrev pub IsInside : (ℕ → ℕ) → ℕ → Source → Type 0
IsInside rank i (ByDriver d) = Unit {0}
IsInside rank i (ByPort j) = rank i < rank j

-- Neither sources nor actuals form a ring: signals have ranks such that a port that is a source has a greater one than its signal, and
-- others such that a port has a greater one than its actual. Where signals are listed from the outside inwards, their numbers are both.
pub record HasNoRing (inwards outwards : ℕ → ℕ) (m : Shape) : Type 0 where
  pub sources : (i : ℕ) → AllByRecursion (IsInside inwards i) (signal_at m i).sources
  pub actual : (i a : ℕ) → (signal_at m i).actual ≡ Some a → outwards a < outwards i

-- where there is no ring, the driving and effective values that are defined are such values
abbrev pub MeetTheirEquations : Type 0
MeetTheirEquations =
    (inwards outwards : ℕ → ℕ) (m : Shape) → HasNoRing inwards outwards m → (given : Stimulus) (ds : List Driver)
    → AreValues m given ds (driving m given ds) (effective m given ds)

-- and no others are
abbrev pub HaveNoOthers : Type 0
HaveNoOthers =
    (inwards outwards : ℕ → ℕ) (m : Shape) → HasNoRing inwards outwards m → (given : Stimulus) (ds : List Driver) (own outer : ℕ → Scalar)
    → AreValues m given ds own outer → (i : ℕ) → (own i ≡ driving m given ds i) × (outer i ≡ effective m given ds i)
