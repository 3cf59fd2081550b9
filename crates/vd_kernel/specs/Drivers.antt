-- Drivers, and what assignments do to them (IEEE 1076-1993, 8.4.1 and 12.6.1; IEEE 1076-2019, 10.5.2.2 and 14.7.2).
use Rattle.std.specs.Prelude.{ℕ, Bool, false, List, [], ◌∷◌, ◌++◌, nat_lt, nat_le, ◌==◌, ◌&&◌, ◌||◌, filter, slice_index_or, slice_set}
use Rattle.std.specs.List.{list_all}
use Rattle.std.specs.Ordering.{int_eq}
use Rattle.vd_values.specs.declared.scalar.Scalar.{Scalar}
use Rattle.vd_values.specs.declared.scalar.Scalar.TheVariants.{Integer, Literal, Time}
use Rattle.vd_kernel.specs.declared.assignments.Transaction.{Transaction}
use Rattle.vd_kernel.specs.declared.assignments.Delay.{Delay}
use Rattle.vd_kernel.specs.declared.assignments.Delay.TheVariants.{Transport, Inertial}
use Rattle.vd_kernel.specs.declared.assignments.Assignment.{Assignment}

-- whether two scalar values are one
abbrev pub is_same_value : Scalar → Scalar → Bool
is_same_value (Integer x) (Integer y) = int_eq x y
is_same_value (Literal m) (Literal n) = m == n
is_same_value (Time s) (Time t) = s == t
is_same_value _ _ = false

-- A driver: the value that it has now, and its projected transactions, earliest first. The transaction that gave it the value of
-- now counts nowhere else.
pub record Driver : Type 0 where
  pub current : Scalar
  pub waiting : List Transaction

-- whether each old transaction from this one up to the new one has the new one's value
abbrev pub leads_up_to : List Transaction → Transaction → Transaction → Bool
leads_up_to old new t =
    list_all (λ u. nat_lt u.time t.time || (nat_le new.time u.time || is_same_value u.value new.value)) old

-- Whether an old transaction stays when a new one comes: it must be earlier, and under inertial delay it must besides belong to
-- the run of equal values directly before the new one.
abbrev pub stays : Delay → List Transaction → Transaction → Transaction → Bool
stays Transport old new t = nat_lt t.time new.time
stays Inertial old new t = nat_lt t.time new.time && leads_up_to old new t

-- the projected transactions after an assignment: the old ones that stay, and behind them the new one
abbrev pub assigned : Delay → Transaction → List Transaction → List Transaction
assigned delay new old = filter (stays delay old new) old ++ new ∷ []

abbrev pub with_assigned : Delay → Transaction → Driver → Driver
with_assigned delay new d = record { current = d.current; waiting = assigned delay new d.waiting }

-- the last value in a list of transactions, or this one where there is none
abbrev pub last_value : Scalar → List Transaction → Scalar
last_value v [] = v
last_value v (t ∷ ts) = last_value t.value ts

-- The driver once this time has come: of what is due the last value is the current one, and the rest is still to come.
abbrev pub advanced : ℕ → Driver → Driver
advanced now d =
    record {
      current = last_value d.current (filter (λ t. nat_le t.time now) d.waiting);
      waiting = filter (λ t. nat_lt now t.time) d.waiting;
    }

-- what stands where there is no driver
abbrev pub no_driver : Driver
no_driver = record { current = Literal 0; waiting = [] }

-- all drivers after an assignment
abbrev pub after_assignment : List Driver → Assignment → List Driver
after_assignment ds a = slice_set ds a.driver (with_assigned a.delay a.new (slice_index_or ds a.driver no_driver))

-- and after several, one after another
abbrev pub after_assignments : List Driver → List Assignment → List Driver
after_assignments ds [] = ds
after_assignments ds (a ∷ rest) = after_assignments (after_assignment ds a) rest
