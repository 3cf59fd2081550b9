-- Bounds of arrays: of the leftmost value of a subtype, of the scalar signals of a subtype, and of a value that was made one of a subtype.
use Rattle.std.specs.Prelude.{None, Option, Some}
use Rattle.vd_composites.specs.Ranges.{from_left}
use Rattle.vd_composites.specs.Subtypes.{Arrays, Subtype}
use Rattle.vd_composites.specs.declared.ranges.Bounds.{Bounds}
use Rattle.vd_meaning.specs.Layouts.{range_or_none}

abbrev pub default_shape : Subtype → Option Bounds
default_shape (Arrays index (Some b) element) = Some b
default_shape (Arrays index None element) = Some (from_left index.range.left index.range.down 0)
default_shape _ = None

abbrev pub signals_shape : Subtype → Option Bounds
signals_shape (Arrays index bounds element) = Some (range_or_none bounds)
signals_shape _ = None

-- those of the subtype, where it has some, and else those of the value
abbrev pub fitted_shape : Subtype → Option Bounds → Option Bounds
fitted_shape (Arrays index (Some b) element) own = Some b
fitted_shape (Arrays index None element) own = own
fitted_shape _ own = None
