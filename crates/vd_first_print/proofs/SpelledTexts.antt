-- The texts of names and marks, and what may stand behind them.
use Rattle.std.proofs.Common.{◌≡◌, ◌≢◌, ℕ, zero, suc, ◌<◌, Bool, true, false, eqb, not, ◌&&◌, ◌||◌, List, [], ◌∷◌, ◌++◌, length, get_or, Some, None, refl, sym, subst, arith}
use Rattle.std.specs.List.{AllByRecursion}
use Rattle.std.specs.Str.{bytes_eq}
use Rattle.std.proofs.lemmas.Bool.{and_right, and_parts, or_parts, not-true}
use Rattle.std.proofs.lemmas.Bool.Decides.{nat_tests}
use Rattle.std.proofs.lemmas.List.Quantifiers.{position-Some}
use Rattle.std.proofs.lemmas.Slice.Eq.{bytes_eq-Decides}
use Rattle.vd_trees.specs.declared.revision.Revision.{Revision}
use Rattle.vd_trees.specs.Identifiers.{is_letter, is_letter_or_digit, starts_with_letter_or_digit, is_name_rest, is_name, place_among}
use Rattle.vd_first_lex.specs.Lexis.{marks_taken, kind_of}
use Rattle.vd_first_print.proofs.LaidLines.{IsNoReturn}

-- ---- names

-- no name goes on with the first byte
abbrev pub ends_name : List ℕ → Bool
ends_name [] = true
ends_name (b ∷ bs) = not (is_letter_or_digit b || eqb b 95)

ended_byte : (b : ℕ) (bs : List ℕ) → ends_name (b ∷ bs) ≡ true → (is_letter_or_digit b ≡ false) × (eqb b 95 ≡ false)
ended_byte b bs h = let p = or_parts (is_letter_or_digit b) (eqb b 95) (not-true (is_letter_or_digit b || eqb b 95) h) in (p.0, p.1)

rest_ended : (bs : List ℕ) (m : ℕ) (ms : List ℕ) → ends_name (m ∷ ms) ≡ true → is_name_rest (bs ++ m ∷ ms) ≡ false
rest_ended [] m ms h = let p = ended_byte m ms h in rw (p.0, p.1) refl
rest_ended (b ∷ bs) m ms h = and_right (is_letter_or_digit b || (eqb b 95 && starts_with_letter_or_digit (bs ++ m ∷ ms))) _ (rest_ended bs m ms h)

-- a name with more behind it is none
pub name_ended : (b : ℕ) (bs : List ℕ) (m : ℕ) (ms : List ℕ) → ends_name (m ∷ ms) ≡ true → is_name (b ∷ bs ++ m ∷ ms) ≡ false
name_ended b bs m ms h = and_right (is_letter b) _ (rest_ended bs m ms h)

letter-no_return : (b : ℕ) → is_letter b ≡ true → IsNoReturn b
letter-no_return b h = grind (arith, nat_tests)

goes_on-no_return : (b : ℕ) (t : Bool) → is_letter_or_digit b || (eqb b 95 && t) ≡ true → IsNoReturn b
goes_on-no_return b true h = grind (arith, nat_tests)
goes_on-no_return b false h = grind (arith, nat_tests)

rest-no_return : (bs : List ℕ) → is_name_rest bs ≡ true → AllByRecursion IsNoReturn bs
rest-no_return [] h = tt
rest-no_return (b ∷ bs) h =
    let p = and_parts (is_letter_or_digit b || (eqb b 95 && starts_with_letter_or_digit bs)) (is_name_rest bs) h in
    (goes_on-no_return b (starts_with_letter_or_digit bs) p.0, rest-no_return bs p.1)

pub name-no_return : (b : ℕ) (bs : List ℕ) → is_name (b ∷ bs) ≡ true → AllByRecursion IsNoReturn (b ∷ bs)
name-no_return b bs h = let p = and_parts (is_letter b) (is_name_rest bs) h in (letter-no_return b p.0, rest-no_return bs p.1)

-- ---- tables

-- a text is the one at its place
pub place_among-is : (texts : List (List ℕ)) (text : List ℕ) (n : ℕ) → place_among texts text ≡ Some n → (n < length texts) × (get_or texts n [] ≡ text)
place_among-is texts text n e =
    let p = position-Some (λ t. bytes_eq text t) texts n [] e in
    (p.0, sym ((bytes_eq-Decides text (get_or texts n [])).0 p.1))

module _ (r : Revision) where
  -- ---- marks

  -- no longer text that begins with this one is a token
  abbrev pub IsLast : List ℕ → Type 0
  IsLast text = (more : List ℕ) → more ≢ [] → kind_of r (text ++ more) ≡ None

  pub record IsMarkText (b : ℕ) (bs : List ℕ) : Type 0 where
    pub no_name : is_name (b ∷ bs) ≡ false
    pub no_return : AllByRecursion IsNoReturn (b ∷ bs)
    pub last : IsLast (b ∷ bs)

  last-more : (text : List ℕ) → ((m : ℕ) (ms : List ℕ) → kind_of r (text ++ m ∷ ms) ≡ None) → IsLast text
  last-more text h [] some = absurd (some refl)
  last-more text h (m ∷ ms) some = h m ms

  pub data IsTaken : List ℕ → Type 0 where
    taken : (b : ℕ) (bs : List ℕ) → IsMarkText b bs → IsTaken (b ∷ bs)

  taken_as : (b : ℕ) (bs : List ℕ) → is_name (b ∷ bs) ≡ false → AllByRecursion IsNoReturn (b ∷ bs) → ((m : ℕ) (ms : List ℕ) → kind_of r (b ∷ bs ++ m ∷ ms) ≡ None) → IsTaken (b ∷ bs)
  taken_as b bs other plain last = taken b bs (record { no_name = other; no_return = plain; last = last-more (b ∷ bs) last })

  taken_at : (n : ℕ) → n < length marks_taken → IsTaken (get_or marks_taken n [])
  taken_at zero h = taken_as 40 [] refl (refl, tt) (λ m ms. refl)
  taken_at (suc zero) h = taken_as 41 [] refl (refl, tt) (λ m ms. refl)
  taken_at (suc (suc zero)) h = taken_as 44 [] refl (refl, tt) (λ m ms. refl)
  taken_at (suc (suc (suc zero))) h = taken_as 46 [] refl (refl, tt) (λ m ms. refl)
  taken_at (suc (suc (suc (suc zero)))) h = taken_as 58 [] refl (refl, tt) (λ m ms. refl)
  taken_at (suc (suc (suc (suc (suc zero))))) h = taken_as 59 [] refl (refl, tt) (λ m ms. refl)
  taken_at (suc (suc (suc (suc (suc (suc zero)))))) h = taken_as 60 (61 ∷ []) refl (refl, (refl, tt)) (λ m ms. refl)
  taken_at (suc (suc (suc (suc (suc (suc (suc n))))))) h = absurd (omega arith)

  pub taken_mark : (text : List ℕ) (n : ℕ) → place_among marks_taken text ≡ Some n → IsTaken text
  taken_mark text n e = let p = place_among-is marks_taken text n e in subst IsTaken p.1 (taken_at n p.0)
