-- The equations of driving and effective values where nothing comes from outside, and lists that hold their values.
use Rattle.std.specs.Prelude.{◌≡◌, ℕ, List, [], map, slice_index_or}
use Rattle.vd_values.specs.declared.scalar.Scalar.{Scalar}
use Rattle.vd_values.specs.declared.scalar.Scalar.TheVariants.{Literal}
use Rattle.vd_kernel.specs.Drivers.{Driver}
use Rattle.vd_kernel.specs.Models.{Signal, Stimulus, no_signal}
use Rattle.vd_kernel.specs.Values.{sources_of, source_value, value_from, through}

-- a stimulus that gives nothing
abbrev pub nothing_given : Stimulus
nothing_given i = []

-- the value of a number in a list of values; past the end what there is where there is no signal
abbrev pub value_at : List Scalar → ℕ → Scalar
value_at values i = slice_index_or values i (Literal 0)

-- a list holds a value for each signal
abbrev pub Hold : List Scalar → (ℕ → Scalar) → Type 0
Hold values f = (i : ℕ) → value_at values i ≡ f i

-- the driving value that these drivers and these values of ports make of a signal
abbrev pub made_of : List Driver → (ℕ → Scalar) → Signal → Scalar
made_of ds own s = value_from s (map (source_value ds own) (sources_of s []))

-- each of these values is made of those of its sources
abbrev pub AreDriving : List Signal → List Driver → (ℕ → Scalar) → Type 0
AreDriving signals ds own = (i : ℕ) → own i ≡ made_of ds own (slice_index_or signals i no_signal)

-- each of these values is that of its actual, or its own
abbrev pub AreEffective : List Signal → (own outer : ℕ → Scalar) → Type 0
AreEffective signals own outer = (i : ℕ) → outer i ≡ through (slice_index_or signals i no_signal).actual outer (own i)
