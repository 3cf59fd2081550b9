-- Values of digits, and powers.
use Rattle.std.proofs.Common.{◌≡◌, ℕ, zero, suc, ◌+◌, ◌-◌, ◌*◌, ◌^◌, ◌<◌, ◌≤◌, Bool, true, false, cond, eqb, leb, ◌&&◌, List, [], ◌∷◌, length, drop, get_or, Some, None, refl, sym, ap, ◌∙◌, subst, arith}
use Rattle.std.proofs.lemmas.Bool.{cond-true, cond-false, le-leb, lt-leb, leb-true, leb-false, and_parts, cond_both}
use Rattle.std.proofs.lemmas.List.{at_drop_more, at_drop_all}
use Rattle.std.proofs.Math.Nat.{le-mul_of_pos_right, one-le-pow, pow-succ', mul_assoc, mul-le-mul_right}
use Rattle.std.specs.Char.{digit_value}
use Rattle.vd_tokens.specs.Spellings.{greatest_integer}
use Rattle.std.specs.List.{list_all}
use Rattle.vd_literals.specs.Numbers.{is_base, raised}
use Rattle.vd_literals.specs.Values.{value_behind, value_of, is_below, bounded}

pub bounded-fits : (n : ℕ) → n ≤ greatest_integer → bounded n ≡ Some n
bounded-fits n h = cond-true (leb n greatest_integer) (Some n) None (le-leb n greatest_integer h)

pub bounded-above : (n : ℕ) → greatest_integer < n → bounded n ≡ None
bounded-above n h = cond-false (leb n greatest_integer) (Some n) None (lt-leb n greatest_integer h)

-- ---- values grow

le_more : (base n d : ℕ) → 1 ≤ base → n ≤ n * base + d
le_more base n d h = let e = le-mul_of_pos_right n (let p : 0 < base = omega arith in p) in omega (arith, e)

pub value-above : (base n : ℕ) (bs : List ℕ) → 1 ≤ base → n ≤ value_behind base n bs
value-above base n [] h = omega arith
value-above base n (b ∷ bs) h =
    let rest = value-above base (cond (eqb b 95) n (n * base + digit_value b)) bs h in
    let here = cond_both (eqb b 95) n (n * base + digit_value b) (λ m. n ≤ m) (λ t. (let e : n ≤ n = omega arith in e)) (λ t. le_more base n (digit_value b) h) in
    omega (arith, rest, here)

pub value-digit : (base n : ℕ) (bs : List ℕ) (i : ℕ) → i < length bs → eqb (get_or bs i 0) 95 ≡ false → value_behind base n (drop i bs) ≡ value_behind base (n * base + digit_value (get_or bs i 0)) (drop (i + 1) bs)
value-digit base n bs i h e =
    at_drop_more (value_behind base n) bs i 0 h
    ∙ ap (λ m. value_behind base m (drop (i + 1) bs)) (cond-false (eqb (get_or bs i 0) 95) n (n * base + digit_value (get_or bs i 0)) e)

pub pow-step : (n base k : ℕ) → 0 < k → n * base ^ k ≡ n * base * base ^ (k - 1)
pow-step n base zero h = absurd (omega arith)
pow-step n base (suc k) h = let e : suc k - 1 ≡ k = omega arith in rw e (ap (λ p. n * p) (pow-succ' base k) ∙ sym (mul_assoc n base (base ^ k)))

pub pow-above : (n base k : ℕ) → 1 ≤ base → n ≤ n * base ^ k
pow-above n base k h = let e = one-le-pow k base (let p : 0 < base = omega arith in p) in le-mul_of_pos_right n (let p : 0 < base ^ k = omega (arith, e) in p)

none_some : (k : ℕ) → None ≡ Some k → ⊥
none_some k e = cc

some_some : (n k : ℕ) → Some n ≡ Some k → n ≡ k
some_some n k e = cc

pub above-bounded : (n : ℕ) → bounded n ≡ None → greatest_integer < n
above-bounded n e = by (leb n greatest_integer) refl
  where
    by : (t : Bool) → leb n greatest_integer ≡ t → greatest_integer < n
    by true h = absurd (none_some n (sym e ∙ bounded-fits n (leb-true n greatest_integer h)))
    by false h = leb-false n greatest_integer h

fits-bounded : (n k : ℕ) → bounded n ≡ Some k → (n ≡ k) × (k ≤ greatest_integer)
fits-bounded n k e = by (leb n greatest_integer) refl
  where
    by : (t : Bool) → leb n greatest_integer ≡ t → (n ≡ k) × (k ≤ greatest_integer)
    by true h = let f = some_some n k (sym (bounded-fits n (leb-true n greatest_integer h)) ∙ e) in (f, subst (λ x. x ≤ greatest_integer) f (leb-true n greatest_integer h))
    by false h = absurd (none_some k (sym (bounded-above n (leb-false n greatest_integer h)) ∙ e))

pub value-is : (n k : ℕ) → Some k ≡ bounded n → n ≡ k
value-is n k e = (fits-bounded n k (sym e)).0

pub value-fits : (n k : ℕ) → Some k ≡ bounded n → k ≤ greatest_integer
value-fits n k e = (fits-bounded n k (sym e)).1

-- an exponent is below its power
exponent_below : (base e : ℕ) → 2 ≤ base → e < base ^ e
exponent_below base zero h = let e = one-le-pow 0 base (let p : 0 < base = omega arith in p) in omega (arith, e)
exponent_below base (suc e) h =
    let ih = exponent_below base e h in
    let p = pow-succ' base e in
    let m = mul-le-mul_right (base ^ e) h in
    let t : 2 * base ^ e ≡ base ^ e + base ^ e = omega arith in
    omega (arith, ih, p, m, t)

pub power_above : (n base e : ℕ) → 2 ≤ base → 1 ≤ n → greatest_integer < e → bounded (n * base ^ e) ≡ None
power_above n base e h some far =
    let p = exponent_below base e h in
    let m = mul-le-mul_right (base ^ e) some in
    bounded-above (n * base ^ e) (omega (arith, p, m))

pub power_of_above : (n base e : ℕ) → 1 ≤ base → greatest_integer < n → bounded (n * base ^ e) ≡ None
power_of_above n base e h far = let m = pow-above n base e h in bounded-above (n * base ^ e) (omega (arith, m))

pub base_from : (n : ℕ) → (leb 2 n && leb n 16) ≡ true → (2 ≤ n) × (n ≤ 16)
base_from n e = let p = and_parts (leb 2 n) (leb n 16) e in (leb-true 2 n p.0, leb-true n 16 p.1)

pub raised_none : (base e : ℕ) (ds : List ℕ) → is_base base ≡ true → bounded (value_of base ds) ≡ None → raised base ds e ≡ None
raised_none base e ds h none =
    let two = base_from base h in
    cond_both (is_base base && list_all (is_below base) ds) (bounded (value_of base ds * base ^ e)) None (λ x. x ≡ None)
    (λ t. power_of_above (value_of base ds) base e (omega (arith, two.0)) (above-bounded (value_of base ds) none)) (λ t. refl)
