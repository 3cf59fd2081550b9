-- The longest name at the front of a line's bytes.
use Rattle.std.proofs.Common.{◌≡◌, ◌≢◌, ℕ, suc, ◌+◌, ◌<◌, ◌≤◌, Bool, true, false, cond, eqb, ◌&&◌, ◌||◌, List, [], ◌∷◌, ◌++◌, length, take, drop, get_or, ⊎_elim, slice_index, refl, sym, ap, ◌∙◌, subst, arith}
use Rattle.std.proofs.Math.Numerals.{one-add}
use Rattle.std.proofs.lemmas.Bool.{or_parts, or_cases, or_from, and_left, and_right, and_cases, and_parts, and_from, or_left, or_right, cond-true, cond-false}
use Rattle.std.proofs.lemmas.List.{drop_all, drop_more}
use Rattle.vd_trees.specs.Identifiers.{is_letter, is_letter_or_digit, starts_with_letter_or_digit, is_name_rest}
use Rattle.vd_first_lex.specs.Scans.{goes_on, IsLongestName}

-- how many bytes go on with a name
unfoldable pub rest_length : List ℕ → ℕ
rest_length [] = 0
rest_length (b ∷ bs) = cond (goes_on (b ∷ bs)) (suc (rest_length bs)) 0

pub rest_length-more : (xs : List ℕ) (n : ℕ) → n < length xs → goes_on (drop n xs) ≡ true → rest_length (drop n xs) ≡ suc (rest_length (drop (n + 1) xs))
unfolding rest_length
rest_length-more xs n h e =
    let s = drop_more xs n 0 h in
    let first : goes_on (get_or xs n 0 ∷ drop (n + 1) xs) ≡ true = rw s at e in
    ap rest_length s ∙ cond-true (goes_on (get_or xs n 0 ∷ drop (n + 1) xs)) (suc (rest_length (drop (n + 1) xs))) 0 first

pub rest_length-stop : (bs : List ℕ) → goes_on bs ≡ false → rest_length bs ≡ 0
unfolding rest_length
rest_length-stop [] e = refl
rest_length-stop (b ∷ bs) e = cond-false (goes_on (b ∷ bs)) (suc (rest_length bs)) 0 e

pub rest_length-all : (xs : List ℕ) (n : ℕ) → length xs ≤ n → rest_length (drop n xs) ≡ 0
unfolding rest_length
rest_length-all xs n h = ap rest_length (drop_all n xs h)

rest_within : (bs : List ℕ) → rest_length bs ≤ length bs
unfolding rest_length
rest_within [] = omega arith
rest_within (b ∷ bs) = by (goes_on (b ∷ bs)) (rest_within bs)
  where
    by : (t : Bool) → rest_length bs ≤ length bs → cond t (suc (rest_length bs)) 0 ≤ suc (length bs)
    by true h = omega arith
    by false h = omega arith

-- what starts with a letter or a digit still does where its front is cut off
starts_within : (bs : List ℕ) → starts_with_letter_or_digit bs ≡ true → starts_with_letter_or_digit (take (rest_length bs) bs) ≡ true
unfolding rest_length
starts_within [] h = h
starts_within (b ∷ bs) h = subst (λ t. starts_with_letter_or_digit (take (cond t (suc (rest_length bs)) 0) (b ∷ bs)) ≡ true) (sym (or_left (is_letter_or_digit b) _ h)) h

goes_on_within : (b : ℕ) (bs : List ℕ) → goes_on (b ∷ bs) ≡ true → goes_on (b ∷ take (rest_length bs) bs) ≡ true
goes_on_within b bs e =
    ⊎_elim
    (λ l. or_left (is_letter_or_digit b) _ l)
    (λ r. let p = and_parts (eqb b 95) (starts_with_letter_or_digit bs) r in or_right (is_letter_or_digit b) _ (and_from (eqb b 95) _ p.0 (starts_within bs p.1)))
    (or_cases (is_letter_or_digit b) (eqb b 95 && starts_with_letter_or_digit bs) e)

rest_is_name : (bs : List ℕ) → is_name_rest (take (rest_length bs) bs) ≡ true
unfolding rest_length
rest_is_name [] = refl
rest_is_name (b ∷ bs) = by (goes_on (b ∷ bs)) refl (rest_is_name bs)
  where
    by : (t : Bool) → goes_on (b ∷ bs) ≡ t → is_name_rest (take (rest_length bs) bs) ≡ true → is_name_rest (take (cond t (suc (rest_length bs)) 0) (b ∷ bs)) ≡ true
    by true e h = and_from (is_letter_or_digit b || (eqb b 95 && starts_with_letter_or_digit (take (rest_length bs) bs))) _ (goes_on_within b bs e) h
    by false e h = refl

starts_before : (bs behind ms rest : List ℕ) → bs ++ 10 ∷ behind ≡ ms ++ rest → starts_with_letter_or_digit bs ≡ false → starts_with_letter_or_digit ms ≡ false
starts_before bs behind [] rest e h = refl
starts_before [] behind (m ∷ ms) rest e h = ap is_letter_or_digit (ap (λ xs. slice_index xs 0) (sym e))
starts_before (b ∷ bs) behind (m ∷ ms) rest e h = ap is_letter_or_digit (ap (λ xs. slice_index xs 0) (sym e)) ∙ h

-- a byte that doesn't go on with a name doesn't either where fewer bytes stand behind it
goes_on_before : (b : ℕ) (bs behind ms rest : List ℕ) → bs ++ 10 ∷ behind ≡ ms ++ rest → goes_on (b ∷ bs) ≡ false → goes_on (b ∷ ms) ≡ false
goes_on_before b bs behind ms rest e h =
    let p = or_parts (is_letter_or_digit b) (eqb b 95 && starts_with_letter_or_digit bs) h in
    or_from (is_letter_or_digit b) _ p.0
    (⊎_elim
    (λ l. and_left (eqb b 95) _ l)
    (λ r. and_right (eqb b 95) _ (starts_before bs behind ms rest e r))
    (and_cases (eqb b 95) (starts_with_letter_or_digit bs) p.1))

rest_is_longest : (bs behind more rest : List ℕ) → drop (rest_length bs) bs ++ 10 ∷ behind ≡ more ++ rest → more ≢ [] → is_name_rest (take (rest_length bs) bs ++ more) ≡ false
unfolding rest_length
rest_is_longest bs behind [] rest e some = absurd (some refl)
rest_is_longest [] behind (m ∷ ms) rest e some = let at_end : m ≡ 10 = ap (λ xs. slice_index xs 0) (sym e) in rw at_end refl
rest_is_longest (b ∷ bs) behind (m ∷ ms) rest e some = by (goes_on (b ∷ bs)) refl e (rest_is_longest bs behind (m ∷ ms) rest)
  where
    by : (t : Bool) → goes_on (b ∷ bs) ≡ t → drop (cond t (suc (rest_length bs)) 0) (b ∷ bs) ++ 10 ∷ behind ≡ (m ∷ ms) ++ rest
        → (drop (rest_length bs) bs ++ 10 ∷ behind ≡ (m ∷ ms) ++ rest → m ∷ ms ≢ [] → is_name_rest (take (rest_length bs) bs ++ m ∷ ms) ≡ false)
        → is_name_rest (take (cond t (suc (rest_length bs)) 0) (b ∷ bs) ++ m ∷ ms) ≡ false
    by true is split h = and_right (goes_on (b ∷ (take (rest_length bs) bs ++ m ∷ ms))) _ (h split some)
    by false is split h =
        let head : m ≡ b = ap (λ xs. slice_index xs 0) (sym split) in
        let tail : bs ++ 10 ∷ behind ≡ ms ++ rest = ap (drop 1) split in
        and_left (goes_on (m ∷ ms)) _ (subst (λ x. goes_on (x ∷ ms) ≡ false) (sym head) (goes_on_before b bs behind ms rest tail is))

longest_name-cons : (b : ℕ) (bs : List ℕ) → is_letter b ≡ true → IsLongestName (b ∷ bs) (suc (rest_length bs))
longest_name-cons b bs letter = record {
  some = omega arith;
  within = omega (arith, rest_within bs);
  is_name = and_from (is_letter b) _ letter (rest_is_name bs);
  longest = λ behind more rest e some. and_right (is_letter b) _ (rest_is_longest bs behind more rest e some);
}

pub longest_name : (bs : List ℕ) (n : ℕ) → 0 < length bs → is_letter (slice_index bs 0) ≡ true → 1 + rest_length (drop 1 bs) ≡ n → IsLongestName bs n
longest_name [] n h letter e = absurd (omega arith)
longest_name (b ∷ bs) n h letter e = subst (IsLongestName (b ∷ bs)) (sym (one-add (rest_length bs)) ∙ e) (longest_name-cons b bs letter)
