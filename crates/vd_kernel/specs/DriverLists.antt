-- What holds of the projected transactions of every driver, and how an assignment goes through them.
use Rattle.std.specs.Prelude.{Bool, List, ◌<◌, not, false}
use Rattle.std.specs.List.{AllPairs}
use Rattle.vd_values.specs.declared.scalar.Scalar.{Scalar}
use Rattle.vd_kernel.specs.declared.assignments.Transaction.{Transaction}
use Rattle.vd_kernel.specs.declared.assignments.Delay.{Delay}
use Rattle.vd_kernel.specs.declared.assignments.Delay.TheVariants.{Transport, Inertial}
use Rattle.vd_kernel.specs.Drivers.{is_same_value}

-- each transaction is earlier than those behind it (IEEE 1076-1993, 8.4.1)
abbrev pub IsAscending : List Transaction → Type 0
IsAscending ts = AllPairs (λ t u. t.time < u.time) ts

-- whether a transaction with one value deletes itself and all before it, since a later one gets another value under inertial delay
abbrev pub breaks_run : Delay → Scalar → Scalar → Bool
breaks_run Transport old new = false
breaks_run Inertial old new = not (is_same_value old new)
