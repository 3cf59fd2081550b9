-- The bytes of a token are graphic characters.
use Rattle.std.proofs.Common.{◌≡◌, ℕ, zero, suc, ◌^◌, ◌<◌, Bool, true, false, cond, eqb, ◌&&◌, ◌||◌, not, ⊎_elim, List, [], ◌∷◌, ◌++◌, get_or, is_none, refl, sym, ◌∙◌, subst, arith}
use Rattle.std.specs.Prelude.{decimal}
use Rattle.std.specs.List.{list_all}
use Rattle.std.specs.Char.{digit_value}
use Rattle.std.specs.Str.{bytes_eq}
use Rattle.std.specs.Str.Parse.{AllDigits}
use Rattle.std.proofs.lemmas.Fmt.{decimal_is_IsNumeral}
use Rattle.std.proofs.lemmas.Bool.{and_parts, and_from, or_cases}
use Rattle.std.proofs.lemmas.Bool.Decides.{nat_tests}
use Rattle.std.proofs.lemmas.List.Folds.{list_all-append}
use Rattle.vd_trees.specs.declared.revision.Revision.{Revision}
use Rattle.vd_trees.specs.declared.revision.Revision.TheVariants.{V2019, V1993}
use Rattle.vd_trees.specs.Identifiers.{is_letter, is_letter_or_digit, starts_with_letter_or_digit, is_name_rest, is_name, lowered, place_among}
use Rattle.vd_trees.specs.Words.{reserved_words}
use Rattle.vd_tokens.specs.declared.kinds.Kind.{Kind}
use Rattle.vd_tokens.specs.declared.kinds.Kind.TheVariants as kind
use Rattle.vd_tokens.specs.Marks.{marks}
use Rattle.vd_tokens.specs.Spellings.{doubled, is_graphic, is_bit, spelling_of, IsTextOf, IsNumberText}

abbrev pub AreGraphic : List ℕ → Type 0
AreGraphic bs = list_all is_graphic bs ≡ true

letter_graphic : (b : ℕ) → is_letter b ≡ true → is_graphic b ≡ true
letter_graphic b h = grind (arith, nat_tests)

part_graphic : (b : ℕ) → is_letter_or_digit b ≡ true → is_graphic b ≡ true
part_graphic b h = grind (arith, nat_tests)

underscore_graphic : (b : ℕ) → eqb b 95 ≡ true → is_graphic b ≡ true
underscore_graphic b h = grind (arith, nat_tests)

rest_graphic : (bs : List ℕ) → is_name_rest bs ≡ true → AreGraphic bs
rest_graphic [] h = refl
rest_graphic (b ∷ bs) h =
    let p = and_parts (is_letter_or_digit b || (eqb b 95 && starts_with_letter_or_digit bs)) (is_name_rest bs) h in
    and_from (is_graphic b) _
    (⊎_elim (part_graphic b) (λ u. underscore_graphic b (and_parts (eqb b 95) (starts_with_letter_or_digit bs) u).0) (or_cases (is_letter_or_digit b) (eqb b 95 && starts_with_letter_or_digit bs) p.0))
    (rest_graphic bs p.1)

name_graphic : (text : List ℕ) → is_name text ≡ true → AreGraphic text
name_graphic [] h = refl
name_graphic (b ∷ bs) h = let p = and_parts (is_letter b) (is_name_rest bs) h in and_from (is_graphic b) _ (letter_graphic b p.0) (rest_graphic bs p.1)

digit_graphic : (b : ℕ) → digit_value b < 10 → is_graphic b ≡ true
digit_graphic b h = grind (arith, nat_tests)

digits_graphic : (ds : List ℕ) → AllDigits 10 ds → AreGraphic ds
digits_graphic [] h = refl
digits_graphic (d ∷ ds) h = and_from (is_graphic d) _ (digit_graphic d h.0) (digits_graphic ds h.1)

number_graphic : (text : List ℕ) → IsNumberText text → AreGraphic text
number_graphic text h =
    let small : h.number < 2 ^ 64 = omega (arith, h.fits) in
    subst AreGraphic (sym h.is_decimal) (digits_graphic (decimal h.number) (decimal_is_IsNumeral h.number small).0.1)

doubled_graphic : (text : List ℕ) → AreGraphic text → AreGraphic (doubled text)
doubled_graphic [] h = refl
doubled_graphic (b ∷ bs) h =
    let p = and_parts (is_graphic b) (list_all is_graphic bs) h in
    by (eqb b 34) p.0 (doubled_graphic bs p.1)
  where
    by : (t : Bool) → is_graphic b ≡ true → AreGraphic (doubled bs) → AreGraphic (cond t (b ∷ b ∷ doubled bs) (b ∷ doubled bs))
    by true g k = and_from (is_graphic b) _ g (and_from (is_graphic b) _ g k)
    by false g k = and_from (is_graphic b) _ g k

-- a text between two graphic characters
between : (b c : ℕ) (text : List ℕ) → is_graphic b ≡ true → is_graphic c ≡ true → AreGraphic text → AreGraphic (b ∷ text ++ c ∷ [])
between b c text g h all = and_from (is_graphic b) _ g (list_all-append is_graphic text (c ∷ []) ∙ and_from (list_all is_graphic text) _ all (and_from (is_graphic c) true h refl))

bit_graphic : (r : Revision) (b : ℕ) → is_bit r b ≡ true → is_graphic b ≡ true
bit_graphic V2019 b h = (and_parts (is_graphic b) (not (eqb b 95)) h).0
bit_graphic V1993 b h = zero_or_one b h
  where
    zero_or_one : (c : ℕ) → (eqb c 48 || eqb c 49) ≡ true → is_graphic c ≡ true
    zero_or_one c e = grind (arith, nat_tests)

bits_graphic : (r : Revision) (text : List ℕ) → list_all (is_bit r) text ≡ true → AreGraphic text
bits_graphic r [] h = refl
bits_graphic r (b ∷ bs) h = let p = and_parts (is_bit r b) (list_all (is_bit r) bs) h in and_from (is_graphic b) _ (bit_graphic r b p.0) (bits_graphic r bs p.1)

-- a text of a table
table_graphic : (texts : List (List ℕ)) (n : ℕ) → list_all (list_all is_graphic) texts ≡ true → AreGraphic (get_or texts n [])
table_graphic [] n h = refl
table_graphic (t ∷ ts) zero h = (and_parts (list_all is_graphic t) (list_all (list_all is_graphic) ts) h).0
table_graphic (t ∷ ts) (suc n) h = table_graphic ts n (and_parts (list_all is_graphic t) (list_all (list_all is_graphic) ts) h).1

pub spelling_graphic : (r : Revision) (k : Kind) (text : List ℕ) → IsTextOf r k text → AreGraphic (spelling_of k text)
spelling_graphic r kind.Name text h = name_graphic text (and_parts (is_name text) (bytes_eq (lowered text) text && is_none (place_among (reserved_words r) text)) h).0
spelling_graphic r kind.Number text h = number_graphic text h
spelling_graphic r kind.Letter text h = between 39 39 text refl refl h.1
spelling_graphic r kind.Quoted text h = between 34 34 (doubled text) refl refl (doubled_graphic text h)
spelling_graphic r kind.Bits text h = between 34 34 (doubled text) refl refl (doubled_graphic text (bits_graphic r text h))
spelling_graphic r (kind.Word n) text h = table_graphic (reserved_words V2019) n refl
spelling_graphic r (kind.Mark n) text h = table_graphic (marks V2019) n refl
spelling_graphic r kind.End text h = refl
