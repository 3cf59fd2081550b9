-- Events, and the values before them.
use Rattle.std.specs.Prelude.{List, ℕ, None, slice_index_or}
use Rattle.std.specs.Option.{unwrap_or}
use Rattle.vd_values.specs.declared.scalar.Scalar.{Scalar}
use Rattle.vd_values.specs.declared.scalar.Scalar.TheVariants.{Literal}
use Rattle.vd_kernel.specs.declared.histories.History.{History}
use Rattle.vd_kernel.specs.Cycles.{before_change}

-- What there is to know of a signal's past once its value was this and is that. A port of mode `out` has no actual, so that each
-- signal shows its effective value.
abbrev pub history_after : (old new : Scalar) → History → History
history_after old new h =
    record { before = before_change old new old new; last = unwrap_or (before_change old new old new) h.last }

-- what stands where there is no signal
abbrev pub no_history : History
no_history = record { before = None; last = Literal 0 }

abbrev pub history_at : List History → ℕ → History
history_at hs i = slice_index_or hs i no_history
