-- Numbers that stop at the greatest one of 64 bits: sums and products may be cut off as they are made.
use Rattle.std.proofs.Common.{◌≡◌, ℕ, zero, suc, ◌+◌, ◌*◌, ◌-◌, ◌^◌, ◌<◌, ◌≤◌, ◌⊎◌, inl, inr, min, sym, ap, ◌∙◌, arith}
use Rattle.std.proofs.Common.{le-mul_of_pos_right, mul_comm}
use Rattle.std.proofs.lemmas.Bool.{cases_lt}
use Rattle.std.proofs.lemmas.Bool.Decides.{nat_tests}
use Rattle.vd_weighing.specs.Limits.{at_most}

pub at_most_is_min : (n : ℕ) → at_most n ≡ min n (2 ^ 64 - 1)
unfolding at_most
at_most_is_min n = grind (arith, nat_tests)

pub at_most_small : (n : ℕ) → n < 2 ^ 64 → at_most n ≡ n
at_most_small n below = omega (arith, at_most_is_min n)

pub at_most_great : (n : ℕ) → 2 ^ 64 ≤ n + 1 → at_most n ≡ 2 ^ 64 - 1
at_most_great n above = omega (arith, at_most_is_min n)

pub at_most_twice : (n : ℕ) → at_most (at_most n) ≡ at_most n
at_most_twice n = omega (arith, at_most_is_min n, at_most_is_min (at_most n))

-- ---- sums

pub at_most_plus : (a b : ℕ) → at_most (at_most a + b) ≡ at_most (a + b)
at_most_plus a b = omega (arith, at_most_is_min a, at_most_is_min (a + b), at_most_is_min (at_most a + b))

pub at_most_plus_right : (a b : ℕ) → at_most (a + at_most b) ≡ at_most (a + b)
at_most_plus_right a b = omega (arith, at_most_is_min b, at_most_is_min (a + b), at_most_is_min (a + at_most b))

pub at_most_sum : (a b : ℕ) → at_most (at_most a + at_most b) ≡ at_most (a + b)
at_most_sum a b = at_most_plus a (at_most b) ∙ at_most_plus_right a b

-- ---- products

times_great : (a b : ℕ) → 2 ^ 64 ≤ a → at_most (at_most a * b) ≡ at_most (a * b)
times_great a zero above = ap at_most (omega arith)
times_great a (suc b) above =
    let one : 0 < suc b = omega arith in
    let cut : 2 ^ 64 ≤ at_most a * suc b + 1 = omega (arith, at_most_is_min a, le-mul_of_pos_right (at_most a) one) in
    let whole : 2 ^ 64 ≤ a * suc b + 1 = omega (arith, le-mul_of_pos_right a one) in
    at_most_great (at_most a * suc b) cut ∙ sym (at_most_great (a * suc b) whole)

pub at_most_times : (a b : ℕ) → at_most (at_most a * b) ≡ at_most (a * b)
at_most_times a b = by (cases_lt a (2 ^ 64))
  where
    by : (a < 2 ^ 64) ⊎ (2 ^ 64 ≤ a) → at_most (at_most a * b) ≡ at_most (a * b)
    by (inl below) = ap (λ n. at_most (n * b)) (at_most_small a below)
    by (inr above) = times_great a b above

pub at_most_times_right : (a b : ℕ) → at_most (a * at_most b) ≡ at_most (a * b)
at_most_times_right a b =
    ap at_most (mul_comm a (at_most b)) ∙ at_most_times b a ∙ ap at_most (mul_comm b a)

pub at_most_product : (a b : ℕ) → at_most (at_most a * at_most b) ≡ at_most (a * b)
at_most_product a b = at_most_times a (at_most b) ∙ at_most_times_right a b

-- ---- sums that are made step by step

-- so much is counted, and so much is left of what is wanted
pub record IsCounted (count rest want : ℕ) : Type 0 where
  pub so_far : at_most (count + rest) ≡ at_most want
  pub fits : at_most count ≡ count

pub counted_none : (want : ℕ) → IsCounted 0 want want
counted_none want = record { so_far = ap at_most (omega arith); fits = at_most_small 0 (omega arith) }

pub counted_more : (count here rest total want made next : ℕ) → IsCounted count total want → total ≡ here + rest → made ≡ at_most here → next ≡ at_most (count + made)
    → IsCounted next rest want
counted_more count here rest total want made next counted split made_is next_is = record {
  so_far =
      ap (λ n. at_most (n + rest)) (next_is ∙ ap (λ n. at_most (count + n)) made_is ∙ at_most_plus_right count here)
      ∙ at_most_plus (count + here) rest
      ∙ ap at_most (omega arith)
      ∙ counted.so_far;
  fits = ap at_most next_is ∙ at_most_twice (count + made) ∙ sym next_is;
}

pub counted_all : (count rest want : ℕ) → IsCounted count rest want → rest ≡ 0 → count ≡ at_most want
counted_all count rest want counted none = sym counted.fits ∙ ap at_most (omega arith) ∙ counted.so_far

-- what is left may be cut off
pub counted_cut : (count rest cut want : ℕ) → IsCounted count rest want → at_most (count + cut) ≡ at_most (count + rest) → IsCounted count cut want
counted_cut count rest cut want counted same = record { so_far = same ∙ counted.so_far; fits = counted.fits }

-- five numbers, of which all but the first are cut off
pub sum_of_five : (a b c d e b' c' d' e' sum : ℕ) → b' ≡ at_most b → c' ≡ at_most c → d' ≡ at_most d → e' ≡ at_most e
    → sum ≡ at_most (at_most (at_most (at_most (a + b') + c') + d') + e') → sum ≡ at_most (a + b + c + d + e)
sum_of_five a b c d e b' c' d' e' sum b_is c_is d_is e_is is =
    let two : at_most (a + b') ≡ at_most (a + b) = ap (λ n. at_most (a + n)) b_is ∙ at_most_plus_right a b in
    let three : at_most (at_most (a + b') + c') ≡ at_most (a + b + c) = one_more (a + b) c (at_most (a + b')) c' two c_is in
    let four : at_most (at_most (at_most (a + b') + c') + d') ≡ at_most (a + b + c + d) =
    one_more (a + b + c) d (at_most (at_most (a + b') + c')) d' three d_is in
    is ∙ one_more (a + b + c + d) e (at_most (at_most (at_most (a + b') + c') + d')) e' four e_is
  where
    one_more : (x y x' y' : ℕ) → x' ≡ at_most x → y' ≡ at_most y → at_most (x' + y') ≡ at_most (x + y)
    one_more x y x' y' x_is y_is = ap (λ n. at_most (n + y')) x_is ∙ ap (λ n. at_most (at_most x + n)) y_is ∙ at_most_sum x y
