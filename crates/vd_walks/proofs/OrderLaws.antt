-- Refusals are in a total order, so that the lesser of two is a choice that hangs on nothing else. No name has a dash, so that a
-- caller can name each in `#[tactic(auto, using(..))]`.
use Rattle.std.proofs.Common.{◌≡◌, Bool, true, false, cond, Option, Some, None, refl, sym, ap, ◌∙◌, arith}
use Rattle.std.proofs.lemmas.Bool.Decides.{nat_tests}
use Rattle.vd_bytes.specs.declared.answers.Refused.{Refused}
use Rattle.vd_walks.specs.Least.{is_less, lesser_of, lesser}

pub not_both_less : (a b : Refused) → is_less a b ≡ true → is_less b a ≡ false
not_both_less a b ab = grind (arith, nat_tests)

pub not_less_than_itself : (a : Refused) → is_less a a ≡ false
not_less_than_itself a = grind (arith, nat_tests)

pub same_where_neither_less : (a b : Refused) → is_less a b ≡ false → is_less b a ≡ false → a ≡ b
same_where_neither_less a b ab ba = grind (arith, nat_tests)

-- what isn't less goes on
pub not_less_than_earlier : (a b c : Refused) → is_less b a ≡ false → is_less c b ≡ false → is_less c a ≡ false
not_less_than_earlier a b c ba cb = grind (arith, nat_tests)

-- what is less goes on: else the first would not be less than the last, nor the middle one than the first
pub less_than_later : (a b c : Refused) → is_less a b ≡ true → is_less b c ≡ true → is_less a c ≡ true
less_than_later a b c ab bc = by_cases (is_less a c) refl
  where
    by_cases : (t : Bool) → is_less a c ≡ t → is_less a c ≡ true
    by_cases true is = is
    by_cases false is =
        let no : is_less b c ≡ false = not_less_than_earlier c a b is (not_both_less a b ab) in
        let both : true ≡ false = sym bc ∙ no in cc

-- ---- the lesser of two

lesser_is_first : (a b : Refused) → is_less b a ≡ false → lesser_of a b ≡ a
lesser_is_first a b n = ap (λ t. cond t b a) n

lesser_is_second : (a b : Refused) → is_less b a ≡ true → lesser_of a b ≡ b
lesser_is_second a b l = ap (λ t. cond t b a) l

pub lesser_of_brackets : (a b c : Refused) → lesser_of (lesser_of a b) c ≡ lesser_of a (lesser_of b c)
lesser_of_brackets a b c = by_first (is_less b a) (is_less c b) refl refl
  where
    by_first : (ba cb : Bool) → is_less b a ≡ ba → is_less c b ≡ cb → lesser_of (lesser_of a b) c ≡ lesser_of a (lesser_of b c)
    by_first true true ba cb =
        ap (λ x. lesser_of x c) (lesser_is_second a b ba) ∙ lesser_is_second b c cb
        ∙ sym (lesser_is_second a c (less_than_later c b a cb ba)) ∙ ap (lesser_of a) (sym (lesser_is_second b c cb))
    by_first true false ba cb =
        ap (λ x. lesser_of x c) (lesser_is_second a b ba) ∙ lesser_is_first b c cb
        ∙ sym (lesser_is_second a b ba) ∙ ap (lesser_of a) (sym (lesser_is_first b c cb))
    by_first false true ba cb =
        ap (λ x. lesser_of x c) (lesser_is_first a b ba) ∙ ap (lesser_of a) (sym (lesser_is_second b c cb))
    by_first false false ba cb =
        ap (λ x. lesser_of x c) (lesser_is_first a b ba) ∙ lesser_is_first a c (not_less_than_earlier a b c ba cb)
        ∙ sym (lesser_is_first a b ba) ∙ ap (lesser_of a) (sym (lesser_is_first b c cb))

pub lesser_brackets : (a b c : Option Refused) → lesser (lesser a b) c ≡ lesser a (lesser b c)
lesser_brackets None b c = refl
lesser_brackets (Some a) None c = refl
lesser_brackets (Some a) (Some b) None = refl
lesser_brackets (Some a) (Some b) (Some c) = ap Some (lesser_of_brackets a b c)

pub lesser_right : (a : Option Refused) → lesser a None ≡ a
lesser_right None = refl
lesser_right (Some a) = refl
