-- A design of the code beside one of the definitions.
use Rattle.std.specs.Prelude.{◌≡◌, ℕ, true, false, List, None, map, length}
use Rattle.vd_kernel.specs.declared.shape.Shape.{Shape as ShapeCode}
use Rattle.vd_kernel.specs.Models.{Signal, Shape, signal_at}
use Rattle.vd_kernel.specs.Cycles.{first_drivers}
use Rattle.vd_kernel.specs.Simulated.{Simulated, idle}
use Rattle.vd_kernel.specs.SignalValues.{nothing_given}

-- so many signals and drivers there are
pub record AreCounted (s : Simulated) (signal_count driver_count : ℕ) : Type 0 where
  pub signals : length s.signals ≡ signal_count
  pub drivers : length s.drivers ≡ driver_count

-- A signal as the code is told of it: the outside drives nothing, and a port of mode `out` is no other than the rest.
abbrev pub told : Signal → Signal
told s =
    record { initial = s.initial; is_resolved = s.is_resolved; sources = s.sources; actual = s.actual; is_out = false; input = None }

-- These are the signals of the design. Ports of mode `out` have no actual in it (IEEE 1076-1993, 12.6.2), so that each shows its
-- effective value, as all other signals do.
pub record IsDesign (m : Shape) (signals : List Signal) : Type 0 where
  pub signals_are : signals ≡ map told m.signals
  pub out_has_no_actual : (i : ℕ) → (signal_at m i).is_out ≡ true → (signal_at m i).actual ≡ None

-- the code is given the design's signals and its drivers, as they are in the beginning where the outside does nothing
pub record IsGiven (m : Shape) (shape : ShapeCode) : Type 0 where
  pub design : IsDesign m shape.scalars.items
  pub drivers_are : map idle shape.drivers.items ≡ first_drivers m nothing_given
