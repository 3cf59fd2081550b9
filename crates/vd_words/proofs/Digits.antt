-- Texts of digits, and what is read of them.
use Rattle.std.proofs.Common.{◌≡◌, ℕ, ◌<◌, ◌≤◌, ◌^◌, Bool, true, false, ◌&&◌, ◌==◌, nat_le, List, [], ◌∷◌, length, Option, Some, None, Ok, refl, sym, ap, ◌∙◌, subst, arith}
use Rattle.std.specs.List.{list_all}
use Rattle.std.specs.Char.{digit_value}
use Rattle.std.specs.Str.Parse.{AllDigits, IsNumeral, ParsesUnsigned, digits_value, without_leading_plus}
use Rattle.std.proofs.lemmas.Bool.Decides.{nat_tests}
use Rattle.clap.proofs.WalkLemmas.{both}
use Rattle.vd_words.specs.Commands.{is_digit, is_number, leads_well, number_named}

digit_low : (b : ℕ) → is_digit b ≡ true → (48 ≤ b) × (b ≤ 57)
digit_low b h = let x : (nat_le 48 b ≡ true) × (nat_le b 57 ≡ true) = both (nat_le 48 b) (nat_le b 57) h in grind (arith, nat_tests)

digit_below : (b : ℕ) → is_digit b ≡ true → digit_value b < 10
digit_below b h = let x : (48 ≤ b) × (b ≤ 57) = digit_low b h in grind (arith, nat_tests)

pub all_digits : (text : List ℕ) → list_all is_digit text ≡ true → AllDigits 10 text
all_digits [] h = tt
all_digits (b ∷ bs) h = let x = both (is_digit b) (list_all is_digit bs) h in (digit_below b x.0, all_digits bs x.1)

-- no sign stands in front of digits
pub no_plus : (text : List ℕ) → list_all is_digit text ≡ true → without_leading_plus text ≡ text
no_plus [] h = refl
no_plus (b ∷ bs) h =
    let x = both (is_digit b) (list_all is_digit bs) h in
    let y = digit_low b x.0 in
    let no : (b == 43) ≡ false = grind (arith, nat_tests) in
    rw no refl

some_digit : (text : List ℕ) → leads_well text ≡ true → 0 < length text
some_digit [] h = absurd cc
some_digit (b ∷ bs) h = omega arith

pub numeral : (text : List ℕ) → is_number text ≡ true → IsNumeral 10 text
numeral text h = let x = both (leads_well text) (list_all is_digit text) h in (some_digit text x.0, all_digits text x.1)

-- what is read of a number
pub read_number : (E : Type 0) (text : List ℕ) (n : ℕ) → is_number text ≡ true → ParsesUnsigned {E = E} 32 10 text (Ok n) → n ≡ digits_value 10 text
read_number E text n h parse = let x = both (leads_well text) (list_all is_digit text) h in parse.1 ∙ ap (digits_value 10) (no_plus text x.1)

-- and where it isn't read
module _ (text : List ℕ) (least most : ℕ) (h : is_number text ≡ true) (fits : most < 2 ^ 32) (no : (IsNumeral 10 (without_leading_plus text) × (digits_value 10 (without_leading_plus text) < 2 ^ 32)) → ⊥) where
  too_long : 2 ^ 32 ≤ digits_value 10 text
  too_long =
      let x = both (leads_well text) (list_all is_digit text) h in
      let same : without_leading_plus text ≡ text = no_plus text x.1 in
      let high : digits_value 10 text < 2 ^ 32 → ⊥ = λ low. no (subst (λ t. IsNumeral 10 t × (digits_value 10 t < 2 ^ 32)) (sym same) (numeral text h, low)) in
      omega arith

  pub none_named : None ≡ number_named least most text
  none_named =
      let long = too_long in
      let above : nat_le (digits_value 10 text) most ≡ false = grind (arith, nat_tests) in
      by_test (nat_le least (digits_value 10 text)) refl above
    where
      by_test : (b : Bool) → nat_le least (digits_value 10 text) ≡ b → nat_le (digits_value 10 text) most ≡ false → None ≡ number_named least most text
      by_test true e above = rw (h, e, above) refl
      by_test false e above = rw (h, e) refl
