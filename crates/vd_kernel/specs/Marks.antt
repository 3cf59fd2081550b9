-- How the standard itself puts what an assignment does to a projected output waveform: by deleting and by marking transactions (IEEE
-- 1076-1993, 8.4.1; IEEE 1076-2019, 10.5.2.2).
use Rattle.std.specs.Prelude.{◌≡◌, ◌<◌, Bool, true, List, [], ◌∷◌, ◌++◌, nat_lt, ◌&&◌, filter, if◌then◌else◌}
use Rattle.std.specs.Bool.{Decides}
use Rattle.std.specs.List.{AllByRecursion}
use Rattle.vd_values.specs.declared.scalar.Scalar.{Scalar}
use Rattle.vd_kernel.specs.declared.assignments.Transaction.{Transaction}
use Rattle.vd_kernel.specs.declared.assignments.Delay.TheVariants.{Transport, Inertial}
use Rattle.vd_kernel.specs.Drivers.{is_same_value, assigned}

-- the transactions of a driver stand in ascending order of time
abbrev pub IsRising : List Transaction → Type 0
IsRising [] = Unit {0}
IsRising (t ∷ ts) = AllByRecursion (λ u. t.time < u.time) ts × IsRising ts

-- All old transactions that aren't earlier than the new one are deleted, and the new one is appended.
abbrev pub appended : Transaction → List Transaction → List Transaction
appended new old = filter (λ t. nat_lt t.time new.time) old ++ new ∷ []

-- Whether a transaction in front of these is marked. The new one, which is the last, is; an old one is where it directly precedes a
-- marked one and has its value. No limit on rejection below the delay is given, so no other old one is.
abbrev pub is_marked : Transaction → List Transaction → Bool
is_marked t [] = true
is_marked t (u ∷ us) = is_marked u us && is_same_value t.value u.value

-- All transactions that aren't marked are deleted.
abbrev pub marked : List Transaction → List Transaction
marked [] = []
marked (t ∷ ts) = if is_marked t ts then t ∷ marked ts else marked ts

-- Under transport delay the old ones that aren't earlier are deleted, and no more; under inertial delay then those without a mark.
pub record FollowsTheStandard : Type 0 where
  pub transport : (new : Transaction) (old : List Transaction) → assigned Transport new old ≡ appended new old
  pub inertial : (new : Transaction) (old : List Transaction) → IsRising old → assigned Inertial new old ≡ marked (appended new old)

-- two scalar values count as one exactly where they are equal
abbrev pub SameValueIsEqual : Type 0
SameValueIsEqual = (x y : Scalar) → Decides (is_same_value x y) (x ≡ y)
