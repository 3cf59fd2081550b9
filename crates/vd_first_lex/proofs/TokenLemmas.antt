-- Tokens at the front of a line's bytes.
use Rattle.std.proofs.Common.{◌≡◌, ◌≢◌, ℕ, zero, suc, ◌<◌, true, false, eqb, List, [], ◌∷◌, ◌++◌, length, take, drop, slice_index, Some, None, refl, sym, ap, ◌∙◌, subst, arith}
use Rattle.std.proofs.lemmas.Bool.{cond-true, false_from_ne_true}
use Rattle.std.proofs.lemmas.Bool.Decides.{Decides-eqb}
use Rattle.std.proofs.Common.{true≢false}
use Rattle.vd_trees.specs.declared.revision.Revision.{Revision}
use Rattle.vd_trees.specs.declared.revision.Revision.TheVariants.{V2019}
use Rattle.vd_trees.specs.Identifiers.{is_letter, is_name, lowered, place_among}
use Rattle.vd_trees.specs.Words.{reserved_words}
use Rattle.vd_first_lex.specs.declared.tokens.Kind.TheVariants.{Mark}
use Rattle.vd_first_lex.specs.Lexis.{marks_taken, word_or_name, kind_of}
use Rattle.vd_first_lex.specs.Scans.{IsLongestName, BeginsToken, BeginsNone}

module _ (r : Revision) where
  -- the revisions differ in what a name is, and in nothing else
  pub same_kind : (b : ℕ) (more : List ℕ) → is_letter b ≡ false → kind_of r (b ∷ more) ≡ kind_of V2019 (b ∷ more)
  same_kind b more other = rw other refl

  -- where no token begins with the first byte, none stands at the front
  pub none_begins : (bs : List ℕ) → 0 < length bs → ((more : List ℕ) → kind_of r (slice_index bs 0 ∷ more) ≡ None) → BeginsNone r bs
  none_begins [] h none behind front rest e = absurd (omega arith)
  none_begins (b ∷ bs) h none behind [] rest e = refl
  none_begins (b ∷ bs) h none behind (f ∷ fs) rest e = subst (λ x. kind_of r (x ∷ fs) ≡ None) (ap (λ xs. slice_index xs 0) e) (none fs)

  lone_less : (g : ℕ) (fs : List ℕ) → eqb g 61 ≡ false → kind_of r (60 ∷ g ∷ fs) ≡ None
  lone_less g fs e = rw e refl

  not_equal_sign : (bs behind fs rest : List ℕ) (g : ℕ) → slice_index bs 0 ≢ 61 → bs ++ 10 ∷ behind ≡ g ∷ fs ++ rest → eqb g 61 ≡ false
  not_equal_sign [] behind fs rest g other e = ap (λ xs. eqb (slice_index xs 0) 61) (sym e)
  not_equal_sign (b ∷ bs) behind fs rest g other e = ap (λ xs. eqb (slice_index xs 0) 61) (sym e) ∙ false_from_ne_true (eqb b 61) (λ t. other ((Decides-eqb b 61).0 t))

  -- `<` begins a token only where `=` stands behind it
  pub less_begins : (bs : List ℕ) → 0 < length bs → slice_index bs 0 ≡ 60 → slice_index bs 1 ≢ 61 → BeginsNone r bs
  less_begins [] h first second behind front rest e = absurd (omega arith)
  less_begins (b ∷ bs) h first second behind [] rest e = refl
  less_begins (b ∷ bs) h first second behind (f ∷ []) rest e = subst (λ x. kind_of r (x ∷ []) ≡ None) (sym first ∙ ap (λ xs. slice_index xs 0) e) refl
  less_begins (b ∷ bs) h first second behind (f ∷ g ∷ fs) rest e =
      subst (λ x. kind_of r (x ∷ g ∷ fs) ≡ None) (sym first ∙ ap (λ xs. slice_index xs 0) e) (lone_less g fs (not_equal_sign bs behind fs rest g second (ap (drop 1) e)))

  pub single_begins : (bs : List ℕ) (n : ℕ) → 0 < length bs → kind_of r (slice_index bs 0 ∷ []) ≡ Some (Mark n)
      → ((more : List ℕ) → more ≢ [] → kind_of r (slice_index bs 0 ∷ more) ≡ None) → BeginsToken r bs 1 (Mark n)
  single_begins [] n h kind longest = absurd (omega arith)
  single_begins (b ∷ bs) n h kind longest = record {
    some = omega arith;
    within = omega arith;
    kind = kind;
    longest = λ behind more rest e some. longest more some;
  }

  other_byte : (b m : ℕ) → is_letter b ≡ true → is_letter m ≡ false → eqb b m ≡ false
  other_byte b m letter other = false_from_ne_true (eqb b m) (λ t. true≢false (sym letter ∙ (ap is_letter ((Decides-eqb b m).0 t) ∙ other)))

  -- no mark begins with a letter
  letter_no_mark : (b : ℕ) (more : List ℕ) → is_letter b ≡ true → place_among marks_taken (b ∷ more) ≡ None
  letter_no_mark b more letter =
      rw (other_byte b 40 letter refl, other_byte b 41 letter refl, other_byte b 44 letter refl, other_byte b 46 letter refl, other_byte b 58 letter refl, other_byte b 59 letter refl, other_byte b 60 letter refl) refl

  pub letter_no_token : (b : ℕ) (more : List ℕ) → is_letter b ≡ true → is_name (b ∷ more) ≡ false → kind_of r (b ∷ more) ≡ None
  letter_no_token b more letter no_name = rw (no_name, letter_no_mark b more letter) refl

  pub name_begins : (bs : List ℕ) (n : ℕ) → is_letter (slice_index bs 0) ≡ true → IsLongestName bs n
      → BeginsToken r bs n (word_or_name (place_among (reserved_words r) (lowered (take n bs))))
  name_begins [] n letter h = absurd (true≢false (sym letter))
  name_begins (b ∷ bs) zero letter h = absurd (omega (arith, h.some))
  name_begins (b ∷ bs) (suc n) letter h = record {
    some = h.some;
    within = h.within;
    kind = cond-true (is_name (b ∷ take n bs)) _ _ h.is_name;
    longest = λ behind more rest e some. letter_no_token b (take n bs ++ more) letter (h.longest behind more rest e some);
  }
