-- What the kernel's code keeps between two cycles.
use Rattle.std.specs.Prelude.{◌≡◌, ℕ, Bool, List, [], Option, Some, None, length, min, if◌then◌else◌}
use Rattle.vd_values.specs.declared.scalar.Scalar.{Scalar}
use Rattle.vd_kernel.specs.declared.assignments.Assignment.{Assignment}
use Rattle.vd_kernel.specs.declared.assignments.Delay.TheVariants.{Transport, Inertial}
use Rattle.vd_kernel.specs.declared.histories.History.{History}
use Rattle.vd_kernel.specs.declared.shape.DriverShape.{DriverShape}
use Rattle.vd_kernel.specs.declared.orders.Along.TheVariants.{Sources, Actuals}
use Rattle.vd_kernel.specs.Drivers.{Driver, after_assignment}
use Rattle.vd_kernel.specs.Models.{Signal}
use Rattle.vd_kernel.specs.Values.{effective}
use Rattle.vd_kernel.specs.Orders.{shape_of, IsRingFree, IsOrder}
use Rattle.vd_kernel.specs.SignalValues.{nothing_given, Hold}

-- the signals of a design, its drivers as they are now, and the past of each signal
pub record Simulated : Type 0 where
  pub signals : List Signal
  pub drivers : List Driver
  pub histories : List History

-- the effective value of a signal now
abbrev pub effective_of : Simulated → ℕ → Scalar
effective_of s i = effective (shape_of s.signals) nothing_given s.drivers i

-- a driver for which nothing is projected
abbrev pub idle : DriverShape → Driver
idle d = record { current = d.initial; waiting = [] }

-- there is no event in the beginning, and no value before the first one
abbrev pub first_history : Scalar → History
first_history v = record { before = None; last = v }

-- an assignment that is made now, for a time after this delay
abbrev pub made_now : (driver : ℕ) (value : Scalar) (time : ℕ) (transport : Bool) → Assignment
made_now driver value time transport =
    record { driver = driver; delay = if transport then Transport else Inertial; new = record { time = time; value = value } }

abbrev pub with_assignment : Assignment → Simulated → Simulated
with_assignment a s = record s { drivers = after_assignment s.drivers a }

-- the earlier of two times, where there is one
abbrev pub earlier_of : Option ℕ → Option ℕ → Option ℕ
earlier_of None u = u
earlier_of (Some t) None = Some t
earlier_of (Some t) (Some u) = Some (min t u)

-- what is computed once holds of the design, and what was computed last of its drivers
pub record AreKept (signals : List Signal) (inner_first outer_first : List ℕ) (drivers : List Driver) (driving_values fresh_values effective_values : List Scalar) (histories : List History) : Type 0 where
  pub ring_free : IsRingFree (shape_of signals)
  pub inner : IsOrder Sources signals inner_first
  pub outer : IsOrder Actuals signals outer_first
  pub driving_long : length driving_values ≡ length signals
  pub fresh_long : length fresh_values ≡ length signals
  pub effective_long : length effective_values ≡ length signals
  pub histories_long : length histories ≡ length signals
  pub effective_is : Hold effective_values (effective (shape_of signals) nothing_given drivers)
