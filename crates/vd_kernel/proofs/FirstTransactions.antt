-- The first of the projected transactions is the earliest, and where none is due a driver stays as it is.
use Rattle.std.proofs.Common.{◌≡◌, ℕ, suc, ◌<◌, Bool, true, false, cond, List, [], ◌∷◌, Some, map, min, refl, sym, ap, ◌∙◌, subst, arith}
use Rattle.std.specs.Prelude.{nat_le, nat_lt, ◌||◌, filter}
use Rattle.std.specs.List.{list_any, AllByRecursion, slice_get}
use Rattle.std.proofs.lemmas.Bool.{lt-leb, leb-false, lt-ltb}
use Rattle.std.proofs.lemmas.List.Elements.{recursion_from_All, All-from_get_or}
use Rattle.vd_values.specs.declared.scalar.Scalar.{Scalar}
use Rattle.vd_kernel.specs.declared.assignments.Transaction.{Transaction}
use Rattle.vd_kernel.specs.Drivers.{Driver, last_value, advanced}
use Rattle.vd_kernel.specs.DriverLists.{IsAscending}
use Rattle.vd_kernel.specs.Cycles.{least, least_with}

abbrev driver : Scalar → List Transaction → Driver
driver v ts = record { current = v; waiting = ts }

or_false : (a b : Bool) → (a || b) ≡ false → (a ≡ false) × (b ≡ false)
or_false true b e = cc
or_false false b e = (refl, e)

-- all others are later
pub others_later : (t : Transaction) (ts : List Transaction) → IsAscending (t ∷ ts) → AllByRecursion (λ u. t.time < u.time) ts
others_later t ts a =
    recursion_from_All (λ u. t.time < u.time) ts (All-from_get_or (λ u. t.time < u.time) ts t (λ k l. a 0 (suc k) t (omega arith) (omega arith)))

others_ascend : (t : Transaction) (ts : List Transaction) → IsAscending (t ∷ ts) → IsAscending ts
others_ascend t ts a = λ i j d h l. a (suc i) (suc j) d (omega arith) (omega arith)

none_due : (now : ℕ) (ts : List Transaction) → AllByRecursion (λ u. now < u.time) ts → list_any (λ u. nat_le u.time now) ts ≡ false
none_due now [] z = refl
none_due now (t ∷ ts) z =
    ap (λ b. b || list_any (λ u. nat_le u.time now) ts) (lt-leb t.time now z.0) ∙ none_due now ts z.1

later_still : (now : ℕ) (t : Transaction) → now < t.time → (ts : List Transaction) → AllByRecursion (λ u. t.time < u.time) ts → AllByRecursion (λ u. now < u.time) ts
later_still now t h [] z = tt
later_still now t h (u ∷ ts) z = let l = z.0 in (omega arith, later_still now t h ts z.1)

first_due_if : (now : ℕ) (t : Transaction) (ts : List Transaction) → AllByRecursion (λ u. t.time < u.time) ts → (b : Bool) → nat_le t.time now ≡ b → b ≡ (b || list_any (λ u. nat_le u.time now) ts)
first_due_if now t ts z true e = refl
first_due_if now t ts z false e =
    sym (none_due now ts (later_still now t (leb-false t.time now e) ts z))

-- one is due where the first one is
pub first_due : (now : ℕ) (t : Transaction) (ts : List Transaction) → IsAscending ts → slice_get ts 0 ≡ Some t → nat_le t.time now ≡ list_any (λ u. nat_le u.time now) ts
first_due now t [] a e = cc
first_due now t (u ∷ ts) a e =
    let same : u ≡ t = cc in
    subst (λ v. nat_le v.time now ≡ list_any (λ w. nat_le w.time now) (u ∷ ts)) same (first_due_if now u ts (others_later u ts a) (nat_le u.time now) refl)

first_least : (t : Transaction) (ts : List Transaction) → IsAscending (t ∷ ts) → least (map (λ u. u.time) (t ∷ ts)) ≡ Some t.time
first_least t [] a = refl
first_least t (u ∷ ts) a =
    let l = (others_later t (u ∷ ts) a).0 in
    let e : min t.time u.time ≡ t.time = omega arith in
    ap (least_with t.time) (first_least u ts (others_ascend t (u ∷ ts) a)) ∙ ap Some e

-- and the least time is that of the first one
pub first_is_least : (t : Transaction) (ts : List Transaction) → IsAscending ts → slice_get ts 0 ≡ Some t → Some t.time ≡ least (map (λ u. u.time) ts)
first_is_least t [] a e = cc
first_is_least t (u ∷ ts) a e =
    let same : u ≡ t = cc in
    ap (λ v. Some v.time) (sym same) ∙ sym (first_least u ts a)

no_more : (now : ℕ) (x : Scalar) (t : Transaction) (ts : List Transaction) → (now < t.time) → (advanced now (record { current = x; waiting = ts }) ≡ record { current = x; waiting = ts }) → advanced now (record { current = x; waiting = t ∷ ts }) ≡ record { current = x; waiting = t ∷ ts }
no_more now x t ts h e =
    ap (λ b. driver (last_value x (cond b (t ∷ filter (λ u. nat_le u.time now) ts) (filter (λ u. nat_le u.time now) ts))) (filter (λ u. nat_lt now u.time) (t ∷ ts))) (lt-leb t.time now h)
    ∙ ap (λ b. driver (last_value x (filter (λ u. nat_le u.time now) ts)) (cond b (t ∷ filter (λ u. nat_lt now u.time) ts) (filter (λ u. nat_lt now u.time) ts))) (lt-ltb now t.time h)
    ∙ ap (λ (d : Driver). driver d.current (t ∷ d.waiting)) e

-- a driver for which nothing is due
pub nothing_due : (now : ℕ) (x : Scalar) (ts : List Transaction) → list_any (λ u. nat_le u.time now) ts ≡ false → advanced now (record { current = x; waiting = ts }) ≡ record { current = x; waiting = ts }
nothing_due now x [] e = refl
nothing_due now x (t ∷ ts) e =
    let parts = or_false (nat_le t.time now) (list_any (λ u. nat_le u.time now) ts) e in
    no_more now x t ts (leb-false t.time now parts.0) (nothing_due now x ts parts.1)
