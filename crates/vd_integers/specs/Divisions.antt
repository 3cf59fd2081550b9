-- What division leaves. (IEEE 1076, multiplying operators: the remainder has the sign of the left operand, the modulus that of the
-- right one, and both are less in size than the right one.)
use Rattle.std.specs.Prelude.{◌≡◌, ℤ, pos, negsuc, ◌+ℤ◌, ◌*ℤ◌, int_div, int_rem, neg_ℤ, ◌<◌, unsigned_abs}
use Rattle.std.specs.Int.{int_rem_euclid}

abbrev pub remainder_of : ℤ → ℤ → ℤ
remainder_of a b = int_rem a b

-- of a number by one that isn't negative it isn't negative itself, and with both signs turned its own sign is turned
abbrev pub modulus_of : ℤ → ℤ → ℤ
modulus_of a (pos b) = int_rem_euclid a (pos b)
modulus_of a (negsuc b) = neg_ℤ (int_rem_euclid (neg_ℤ a) (negsuc b))

-- a number that is 0 or has the sign of another one
abbrev pub HasSignOf : ℤ → ℤ → Type 0
HasSignOf (pos a) (pos b) = Unit {0}
HasSignOf (pos a) (negsuc b) = a ≡ 0
HasSignOf (negsuc a) (pos b) = ⊥
HasSignOf (negsuc a) (negsuc b) = Unit {0}

-- what the standard says of `rem` and of `/`
pub record IsRemainder (a b r : ℤ) : Type 0 where
  pub rest : int_div a b *ℤ b +ℤ r ≡ a
  pub smaller : unsigned_abs r < unsigned_abs b
  pub sign : HasSignOf r a

-- what it says of `mod`: some whole number times b is left out of a
pub record IsModulus (a b m : ℤ) : Type 0 where
  pub times : ℤ
  pub rest : times *ℤ b +ℤ m ≡ a
  pub smaller : unsigned_abs m < unsigned_abs b
  pub sign : HasSignOf m b

abbrev pub DivisionFollowsTheStandard : Type 0
DivisionFollowsTheStandard =
    (a b : ℤ) → 0 < unsigned_abs b → IsRemainder a b (remainder_of a b) × IsModulus a b (modulus_of a b)
