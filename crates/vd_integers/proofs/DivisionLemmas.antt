-- What division leaves, by the signs of its operands.
use Rattle.std.proofs.Common.{◌≡◌, ◌<◌, ℕ, zero, suc, ◌+◌, ◌-◌, ◌*◌, ◌/◌, ◌%◌, ℤ, pos, negsuc, ◌+ℤ◌, neg_ℤ, refl, sym, ap, ◌∙◌, subst, arith, mul_comm}
use Rattle.std.proofs.Math.Nat.{div-add-mod}
use Rattle.std.proofs.lemmas.Nat.{mod_below}
use Rattle.std.proofs.lemmas.Int.{ints}
use Rattle.std.proofs.lemmas.Int.{quot-rem, rem_below}
use Rattle.std.specs.Prelude.{int_rem, unsigned_abs}
use Rattle.vd_integers.specs.Divisions.{remainder_of, modulus_of, HasSignOf, IsRemainder, IsModulus}

negated_sign : (n m : ℕ) → HasSignOf (neg_ℤ (pos n)) (negsuc m)
negated_sign zero m = refl
negated_sign (suc n) m = tt

remainder_sign : (a b : ℤ) → HasSignOf (int_rem a b) a
remainder_sign (pos a) (pos b) = tt
remainder_sign (pos a) (negsuc b) = tt
remainder_sign (negsuc a) (pos b) = negated_sign (suc a % b) a
remainder_sign (negsuc a) (negsuc b) = negated_sign (suc a % suc b) a

pub remainder : (a b : ℤ) → 0 < unsigned_abs b → IsRemainder a b (remainder_of a b)
remainder a b some = record { rest = quot-rem a b; smaller = rem_below a b some; sign = remainder_sign a b }

-- a number less a smaller one
less : (x y z : ℕ) → x ≡ z + y → pos x +ℤ neg_ℤ (pos y) ≡ pos z
less x zero z same = ap pos (omega arith)
less x (suc y) z same = omega (arith, ints)

-- and the other way round
less_turned : (x y z : ℕ) → x ≡ suc z + y → neg_ℤ (pos x) +ℤ pos y ≡ negsuc z
less_turned zero y z same = absurd (omega arith)
less_turned (suc x) y z same = omega (arith, ints)

-- a number turned, and another turned one
both_turned : (x y z : ℕ) → x + y ≡ suc z → neg_ℤ (pos x) +ℤ neg_ℤ (pos y) ≡ negsuc z
both_turned zero zero z same = absurd (omega arith)
both_turned zero (suc y) z same = omega (arith, ints)
both_turned (suc x) zero z same = omega (arith, ints)
both_turned (suc x) (suc y) z same = omega (arith, ints)

size_turned : (n : ℕ) → unsigned_abs (neg_ℤ (pos n)) ≡ n
size_turned zero = refl
size_turned (suc n) = refl

pub modulus : (a b : ℤ) → 0 < unsigned_abs b → IsModulus a b (modulus_of a b)
modulus (pos a) (pos b) some =
    let parts : b * (a / b) + a % b ≡ a = div-add-mod a b in
    record { times = pos (a / b); rest = ap pos (ap (λ n. n + a % b) (mul_comm (a / b) b) ∙ parts); smaller = mod_below a b some; sign = tt }
modulus (negsuc a) (pos b) some =
    let parts : b * (a / b) + a % b ≡ a = div-add-mod a b in
    let below : a % b < b = mod_below a b some in
    record {
      times = negsuc (a / b);
      rest = less_turned (suc (a / b) * b) (b - 1 - a % b) a (omega (arith, parts, below, mul_comm (a / b) b));
      smaller = omega (arith, below);
      sign = tt;
    }
modulus (pos zero) (negsuc b) some =
    let none : 0 % suc b ≡ 0 = omega (arith, div-add-mod 0 (suc b)) in
    let nothing_times : 0 * suc b ≡ 0 = omega arith in
    subst (λ n. IsModulus (pos 0) (negsuc b) (neg_ℤ (pos n))) (sym none) (record { times = pos 0; rest = ap (λ n. neg_ℤ (pos n) +ℤ pos 0) nothing_times; smaller = omega arith; sign = refl })
modulus (pos (suc a)) (negsuc b) some =
    let parts : suc b * (a / suc b) + a % suc b ≡ a = div-add-mod a (suc b) in
    let below : a % suc b < suc b = mod_below a (suc b) (omega arith) in
    record {
      times = negsuc (a / suc b);
      rest = less (suc (a / suc b) * suc b) (suc b - 1 - a % suc b) (suc a) (omega (arith, parts, below, mul_comm (a / suc b) (suc b)));
      smaller = subst (λ n. n < suc b) (sym (size_turned (suc b - 1 - a % suc b))) (omega (arith, below));
      sign = negated_sign (suc b - 1 - a % suc b) b;
    }
modulus (negsuc a) (negsuc b) some =
    let parts : suc b * (suc a / suc b) + suc a % suc b ≡ suc a = div-add-mod (suc a) (suc b) in
    let below : suc a % suc b < suc b = mod_below (suc a) (suc b) (omega arith) in
    record {
      times = pos (suc a / suc b);
      rest = both_turned (suc a / suc b * suc b) (suc a % suc b) a (omega (arith, parts, mul_comm (suc a / suc b) (suc b)));
      smaller = subst (λ n. n < suc b) (sym (size_turned (suc a % suc b))) below;
      sign = negated_sign (suc a % suc b) b;
    }
