-- The filter that defines an inertial assignment keeps what the standard marks.
use Rattle.std.proofs.Common.{◌≡◌, ℕ, ◌<◌, Bool, true, false, cond, List, [], ◌∷◌, ◌++◌, refl, sym, ap, ◌∙◌, subst, arith, append_assoc}
use Rattle.std.specs.Prelude.{nat_lt, nat_le, ◌&&◌, ◌||◌, not, filter}
use Rattle.std.specs.List.{list_all, AllByRecursion}
use Rattle.std.proofs.lemmas.Bool.{eqb-true, eq-eqb, lt-ltb, le-ltb, lt-leb, le-leb, ltb-true, ltb-false}
use Rattle.std.proofs.lemmas.Bool.Decides.{Decides-int_eq}
use Rattle.std.proofs.lemmas.List.Folds.{list_all-append}
use Rattle.vd_values.specs.declared.scalar.Scalar.{Scalar}
use Rattle.vd_values.specs.declared.scalar.Scalar.TheVariants.{Integer, Literal, Time}
use Rattle.vd_kernel.specs.declared.assignments.Transaction.{Transaction}
use Rattle.vd_kernel.specs.declared.assignments.Delay.TheVariants.{Inertial}
use Rattle.vd_kernel.specs.Drivers.{is_same_value, leads_up_to, stays}
use Rattle.vd_kernel.specs.Marks.{IsRising, appended, is_marked, marked, FollowsTheStandard, SameValueIsEqual}

-- values that count as one are one
pub one_value : (x y : Scalar) → is_same_value x y ≡ true → x ≡ y
one_value (Integer x) (Integer y) e = ap Integer ((Decides-int_eq x y).0 e)
one_value (Literal m) (Literal n) e = ap Literal (eqb-true m n e)
one_value (Time s) (Time t) e = ap Time (eqb-true s t e)
one_value x y e = cc

itself : (x : Scalar) → is_same_value x x ≡ true
itself (Integer x) = (Decides-int_eq x x).1 refl
itself (Literal m) = eq-eqb m m refl
itself (Time s) = eq-eqb s s refl

pub same_value_is_equal : SameValueIsEqual
same_value_is_equal x y = (one_value x y, λ e. subst (λ z. is_same_value x z ≡ true) e (itself x))

abbrev earlier : Transaction → List Transaction → List Transaction
earlier new ts = filter (λ t. nat_lt t.time new.time) ts

-- not earlier than the new one, or of its value
abbrev agrees : Transaction → Transaction → Bool
agrees new u = nat_le new.time u.time || is_same_value u.value new.value

swap : (x all p q : Bool) → (x ≡ true → p ≡ q) → ((x && all) && p) ≡ (q && (x && all))
swap true true true q h = let e = h refl in cc
swap true true false true h = h refl
swap true true false false h = refl
swap true false p true h = refl
swap true false p false h = refl
swap false all p true h = refl
swap false all p false h = refl

late_if : (m n : ℕ) (b : Bool) → nat_lt n m ≡ b → nat_le m n ≡ not b
late_if m n true e = lt-leb m n (ltb-true n m e)
late_if m n false e = le-leb m n (ltb-false n m e)

late : (m n : ℕ) → nat_le m n ≡ not (nat_lt n m)
late m n = late_if m n (nat_lt n m) refl

-- a mark says that all from here up to the new one have its value
chain_more : (new t u : Transaction) (us : List Transaction) (b : Bool) → nat_le new.time u.time ≡ not b → (is_marked t (earlier new us ++ new ∷ []) ≡ (is_same_value t.value new.value && list_all (agrees new) us)) → (is_marked u (earlier new us ++ new ∷ []) ≡ (is_same_value u.value new.value && list_all (agrees new) us)) → is_marked t ((cond b (u ∷ earlier new us) (earlier new us)) ++ new ∷ []) ≡ (is_same_value t.value new.value && ((nat_le new.time u.time || is_same_value u.value new.value) && list_all (agrees new) us))
chain_more new t u us false e x y =
    x ∙ ap (λ b. is_same_value t.value new.value && ((b || is_same_value u.value new.value) && list_all (agrees new) us)) (sym e)
chain_more new t u us true e x y =
    ap (λ b. b && is_same_value t.value u.value) y
    ∙ swap (is_same_value u.value new.value) (list_all (agrees new) us) (is_same_value t.value u.value) (is_same_value t.value new.value) (λ s. ap (is_same_value t.value) (one_value u.value new.value s))
    ∙ ap (λ b. is_same_value t.value new.value && ((b || is_same_value u.value new.value) && list_all (agrees new) us)) (sym e)

and_true : (b : Bool) → b ≡ (b && true)
and_true true = refl
and_true false = refl

chain : (new t : Transaction) (ts : List Transaction) → is_marked t (earlier new ts ++ new ∷ []) ≡ (is_same_value t.value new.value && list_all (agrees new) ts)
chain new t [] = and_true (is_same_value t.value new.value)
chain new t (u ∷ us) = chain_more new t u us (nat_lt u.time new.time) (late new.time u.time) (chain new t us) (chain new u us)

-- a transaction among others, those in front earlier and those behind later
module _ (new t : Transaction) where
  abbrev test : Transaction → Bool
  test u = nat_lt u.time t.time || agrees new u

  all_before : (front : List Transaction) → AllByRecursion (λ u. u.time < t.time) front → list_all test front ≡ true
  all_before [] z = refl
  all_before (u ∷ us) z =
      ap (λ b. (b || agrees new u) && list_all test us) (lt-ltb u.time t.time z.0) ∙ all_before us z.1

  all_behind : (ts : List Transaction) → AllByRecursion (λ u. t.time < u.time) ts → list_all test ts ≡ list_all (agrees new) ts
  all_behind [] z = refl
  all_behind (u ∷ us) z =
      let later = z.0 in
      ap (λ b. (b || agrees new u) && list_all test us) (le-ltb u.time t.time (omega arith))
      ∙ ap (λ r. agrees new u && r) (all_behind us z.1)

  leads : (front ts : List Transaction) → t.time < new.time → AllByRecursion (λ u. u.time < t.time) front → AllByRecursion (λ u. t.time < u.time) ts → leads_up_to (front ++ t ∷ ts) new t ≡ is_marked t (earlier new ts ++ new ∷ [])
  leads front ts l z w =
      list_all-append test front (t ∷ ts)
      ∙ ap (λ b. b && list_all test (t ∷ ts)) (all_before front z)
      ∙ ap (λ b. (b || agrees new t) && list_all test ts) (le-ltb t.time t.time (omega arith))
      ∙ ap (λ b. (b || is_same_value t.value new.value) && list_all test ts) (lt-leb new.time t.time l)
      ∙ ap (λ r. is_same_value t.value new.value && r) (all_behind ts w)
      ∙ sym (chain new t ts)

-- each of these is later than each of those
abbrev AreLater : List Transaction → List Transaction → Type 0
AreLater front ts = AllByRecursion (λ t. AllByRecursion (λ u. u.time < t.time) front) ts

one_more : (front : List Transaction) (t s : Transaction) → AllByRecursion (λ u. u.time < s.time) front → t.time < s.time → AllByRecursion (λ u. u.time < s.time) (front ++ t ∷ [])
one_more [] t s z l = (l, tt)
one_more (u ∷ us) t s z l = (z.0, one_more us t s z.1 l)

all_more : (front : List Transaction) (t : Transaction) (ts : List Transaction) → AreLater front ts → AllByRecursion (λ s. t.time < s.time) ts → AreLater (front ++ t ∷ []) ts
all_more front t [] z w = tt
all_more front t (s ∷ ts) z w = (one_more front t s z.0 w.0, all_more front t ts z.1 w.1)

-- whether the first one goes with what the rest comes to
both : (new t : Transaction) (rest xs : List Transaction) (k : Bool) → xs ++ new ∷ [] ≡ marked rest → (cond k (t ∷ xs) xs) ++ new ∷ [] ≡ cond k (t ∷ marked rest) (marked rest)
both new t rest xs true e = ap (λ ys. t ∷ ys) e
both new t rest xs false e = e

keeps_if : (new : Transaction) (front : List Transaction) (t : Transaction) (ts : List Transaction) → AllByRecursion (λ u. u.time < t.time) front → AllByRecursion (λ s. t.time < s.time) ts → (b : Bool) → nat_lt t.time new.time ≡ b → filter (stays Inertial (front ++ t ∷ ts) new) ts ++ new ∷ [] ≡ marked (appended new ts) → cond (b && leads_up_to (front ++ t ∷ ts) new t) (t ∷ filter (stays Inertial (front ++ t ∷ ts) new) ts) (filter (stays Inertial (front ++ t ∷ ts) new) ts) ++ new ∷ [] ≡ marked (cond b (t ∷ earlier new ts) (earlier new ts) ++ new ∷ [])
keeps_if new front t ts z w false e h = h
keeps_if new front t ts z w true e h =
    ap (λ k. cond k (t ∷ filter (stays Inertial (front ++ t ∷ ts) new) ts) (filter (stays Inertial (front ++ t ∷ ts) new) ts) ++ new ∷ []) (leads new t front ts (ltb-true t.time new.time e) z w)
    ∙ both new t (appended new ts) (filter (stays Inertial (front ++ t ∷ ts) new) ts) (is_marked t (appended new ts)) h

keeps : (new : Transaction) (front ts : List Transaction) → AreLater front ts → IsRising ts → filter (stays Inertial (front ++ ts) new) ts ++ new ∷ [] ≡ marked (appended new ts)
keeps new front [] z r = refl
keeps new front (t ∷ ts) z r =
    keeps_if new front t ts z.0 r.0 (nat_lt t.time new.time) refl
    (ap (λ old. filter (stays Inertial old new) ts ++ new ∷ []) (sym (append_assoc front (t ∷ []) ts)) ∙ keeps new (front ++ t ∷ []) ts (all_more front t ts z.1 r.0) r.1)

none_before : (ts : List Transaction) → AreLater [] ts
none_before [] = tt
none_before (t ∷ ts) = (tt, none_before ts)

pub follows_the_standard : FollowsTheStandard
follows_the_standard =
    record { transport = λ new old. refl; inertial = λ new old r. keeps new [] old (none_before old) r }
