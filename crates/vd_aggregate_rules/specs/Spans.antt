-- From the least to the greatest value of ranges, range by range.
use Rattle.std.specs.Prelude.{List, None, Option, Some, [], false, if◌then◌else◌, ◌∷◌}
use Rattle.vd_composites.specs.Aggregates.{greater, lesser}
use Rattle.vd_composites.specs.Ranges.{high_of, is_null, low_of}
use Rattle.vd_composites.specs.declared.ranges.Bounds.{Bounds}

abbrev pub spanned_with : Bounds → Option Bounds → Bounds
spanned_with b None = record { left = low_of b; right = high_of b; down = false }
spanned_with b (Some s) = record { left = lesser (low_of b) s.left; right = greater (high_of b) s.right; down = false }

abbrev pub wider : Bounds → Option Bounds → Option Bounds
wider b s = if is_null b then s else Some (spanned_with b s)

abbrev pub span_in : List Bounds → Option Bounds
span_in [] = None
span_in (b ∷ bs) = wider b (span_in bs)
