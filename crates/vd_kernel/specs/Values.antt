-- Driving and effective values, each computed from all drivers of the design (IEEE 1076-1993, 12.6.2; IEEE 1076-2019, 14.7.3).
use Rattle.std.specs.Prelude.{ℕ, zero, suc, List, [], ◌∷◌, ◌++◌, Option, Some, None, map, length, slice_index_or, if◌then◌else◌}
use Rattle.vd_values.specs.declared.logic.Logic.{Logic}
use Rattle.vd_values.specs.declared.logic.Logic.TheVariants.{U, X, Zero, One, Z, W, L, H, Dash}
use Rattle.vd_values.specs.LogicTables.{column_of}
use Rattle.vd_values.specs.Resolution.{resolved}
use Rattle.vd_values.specs.declared.scalar.Scalar.{Scalar}
use Rattle.vd_values.specs.declared.scalar.Scalar.TheVariants.{Integer, Literal, Time}
use Rattle.vd_kernel.specs.declared.assignments.Transaction.{Transaction}
use Rattle.vd_kernel.specs.declared.assignments.Source.{Source}
use Rattle.vd_kernel.specs.declared.assignments.Source.TheVariants.{Driver as ByDriver, Port as ByPort}
use Rattle.vd_kernel.specs.Drivers.{Driver, no_driver}
use Rattle.vd_kernel.specs.Models.{Signal, Shape, Stimulus, signal_at}

-- The value of std_ulogic that a literal stands for by its position (IEEE 1164). Nothing else is resolved; it would count as 'U'.
abbrev pub logic_of : Scalar → Logic
logic_of (Literal position) = slice_index_or (U ∷ X ∷ Zero ∷ One ∷ Z ∷ W ∷ L ∷ H ∷ Dash ∷ []) position U
logic_of (Integer x) = U
logic_of (Time t) = U

-- The values of several sources, resolved. One source is returned as it is.
abbrev pub resolved_value : List Scalar → Scalar
resolved_value (v ∷ []) = v
resolved_value vs = Literal (column_of (resolved (map logic_of vs)))

-- the source from outside: the outside driver of a port, where the stimulus gives it anything
abbrev pub from_outside : List Transaction → Option ℕ → List Source
from_outside [] input = []
from_outside (t ∷ ts) None = []
from_outside (t ∷ ts) (Some driver) = ByDriver driver ∷ []

-- all sources of a signal, in order, the outside last
abbrev pub sources_of : Signal → List Transaction → List Source
sources_of s given = s.sources ++ from_outside given s.input

-- What a source contributes: a driver its current value, a port its driving value, which is known as inside.
abbrev pub source_value : List Driver → (ℕ → Scalar) → Source → Scalar
source_value ds inside (ByDriver d) = (slice_index_or ds d no_driver).current
source_value ds inside (ByPort i) = inside i

-- A signal's driving value from those of its sources: without a source it is the initial value. An unresolved signal has one
-- source at most, since two stop the elaboration.
abbrev pub value_from : Signal → List Scalar → Scalar
value_from s [] = s.initial
value_from s (v ∷ vs) = if s.is_resolved then resolved_value (v ∷ vs) else v

-- the driving value of a signal, looking through at most n ports inside one another
abbrev pub driving_within : Shape → Stimulus → List Driver → ℕ → ℕ → Scalar
driving_within m given ds zero i = (signal_at m i).initial
driving_within m given ds (suc n) i =
    value_from (signal_at m i) (map (source_value ds (driving_within m given ds n)) (sources_of (signal_at m i) (given i)))

-- The driving value of a signal. No more ports can stand inside one another than there are signals.
abbrev pub driving : Shape → Stimulus → List Driver → ℕ → Scalar
driving m given ds i = driving_within m given ds (length m.signals) i

-- the value of the actual, where there is one, or else the signal's own
abbrev pub through : Option ℕ → (ℕ → Scalar) → Scalar → Scalar
through None outer own = own
through (Some a) outer own = outer a

-- the effective value of a signal, looking through at most n ports round one another
abbrev pub effective_within : Shape → Stimulus → List Driver → ℕ → ℕ → Scalar
effective_within m given ds zero i = driving m given ds i
effective_within m given ds (suc n) i =
    through (signal_at m i).actual (effective_within m given ds n) (driving m given ds i)

-- The effective value of a signal: its driving value, but of an associated `in` or `inout` port that of its actual.
abbrev pub effective : Shape → Stimulus → List Driver → ℕ → Scalar
effective m given ds i = effective_within m given ds (length m.signals) i

-- What a signal shows: its effective value, but of an `out` port the driving value.
abbrev pub shown : Shape → Stimulus → List Driver → ℕ → Scalar
shown m given ds i = if (signal_at m i).is_out then driving m given ds i else effective m given ds i
