-- Texts that count from the least value on, one after the other, and how long they are.
use Rattle.std.proofs.Common.{◌≡◌, ◌∷◌, ◌++◌, ◌<◌, ◌+◌, Bool, List, None, Option, Some, [], ap, arith, false, get_or, length, map, refl, subst, suc, sym, take, true, ℕ, ℤ, pos, ◌+ℤ◌, ◌∙◌, ◌==◌, if◌then◌else◌}
use Rattle.std.proofs.lemmas.List.{length-map, map-append, take_more}
use Rattle.std.proofs.lemmas.List.Elements.{All-cons, All-nil}
use Rattle.std.specs.List.{All, AllByRecursion}
use Rattle.vd_given_choices.specs.Covering.{middle}
use Rattle.vd_given_choices.specs.Texts.{AreCounted, IsCounted}
use Rattle.vd_choice_rules.specs.Texts.{leaves_in, text_in, text_of}
use Rattle.vd_choices.specs.Texts.{texts_of}
use Rattle.vd_choices.specs.declared.texts.Text.{Text}
use Rattle.vd_composites.specs.Scalars.{position_of}
use Rattle.vd_given_choices.proofs.ChoiceLemmas.{none_behind}
use Rattle.vd_given_choices.specs.Refusals.{listed, those_known}
use Rattle.vd_given_choices.specs.declared.choices.Choice.{Choice}
use Rattle.vd_values.specs.declared.scalar.Scalar.{Scalar}

-- ---- numbers of one text

one_number : (ns : List ℕ) (is : List ℤ) (n : ℕ) (i : ℤ) → IsCounted ns is → pos n ≡ i +ℤ pos middle → IsCounted (ns ++ n ∷ []) (is ++ i ∷ [])
one_number [] [] n i are counted = (counted, tt)
one_number [] (k ∷ is) n i are counted = absurd are
one_number (m ∷ ns) [] n i are counted = absurd are
one_number (m ∷ ns) (k ∷ is) n i are counted = (are.0, one_number ns is n i are.1 counted)

pub number_more : (is : List ℤ) (j n : ℕ) (ns ms : List ℕ) (d : ℤ) → j < length is → pos n ≡ get_or is j d +ℤ pos middle → ms ≡ ns ++ n ∷ []
    → IsCounted ns (take j is) → IsCounted ms (take (j + 1) is)
number_more is j n ns ms d within counted pushed are =
    subst (λ l. IsCounted l (take (j + 1) is)) (sym pushed)
    (subst (IsCounted (ns ++ n ∷ [])) (sym (take_more is j d within)) (one_number ns (take j is) n (get_or is j d) are counted))

as_long : (ns : List ℕ) (is : List ℤ) → IsCounted ns is → length ns ≡ length is
as_long [] [] are = refl
as_long [] (i ∷ is) are = absurd are
as_long (n ∷ ns) [] are = absurd are
as_long (n ∷ ns) (i ∷ is) are = ap suc (as_long ns is are.1)

-- ---- texts

one_text : (xs : List (List ℕ)) (ts : List (List ℤ)) (ns : List ℕ) (t : List ℤ) → AreCounted xs ts → IsCounted ns t → AreCounted (xs ++ ns ∷ []) (ts ++ t ∷ [])
one_text [] [] ns t are counted = (counted, tt)
one_text [] (u ∷ ts) ns t are counted = absurd are
one_text (x ∷ xs) [] ns t are counted = absurd are
one_text (x ∷ xs) (u ∷ ts) ns t are counted = (are.0, one_text xs ts ns t are.1 counted)

pub text_more : (xs ys : List Text) (x : Text) (ts : List (List ℤ)) (t : List ℤ) → ys ≡ xs ++ x ∷ [] → IsCounted x.positions.items t → AreCounted (texts_of xs) ts
    → AreCounted (texts_of ys) (ts ++ t ∷ [])
text_more xs ys x ts t pushed counted are =
    subst (λ l. AreCounted l (ts ++ t ∷ [])) (sym (ap texts_of pushed ∙ map-append (λ (c : Text). c.positions.items) xs (x ∷ [])))
    (one_text (texts_of xs) ts x.positions.items t are counted)

pub no_text_more : (xs : List Text) (ts : List (List ℤ)) → AreCounted (texts_of xs) ts → AreCounted (texts_of xs) (ts ++ [])
no_text_more xs ts are = subst (AreCounted (texts_of xs)) (sym (none_behind ts)) are

-- ---- texts of choices that have so many elements

same_number : (m n : ℕ) → (m == n) ≡ true → m ≡ n
same_number m n e = grind arith

module _ (n : ℕ) where
  abbrev IsLong : List ℤ → Type 0
  IsLong t = length t ≡ n

  long_by : (xs : List Scalar) (b : Bool) (ts : List (List ℤ)) → (length xs == n) ≡ b → AllByRecursion IsLong ts
      → AllByRecursion IsLong (listed (if b then Some (map position_of xs) else None) ++ ts)
  long_by xs true ts same all = (length-map xs position_of ∙ same_number (length xs) n same, all)
  long_by xs false ts other all = all

  long_more : (o : Option (List Scalar)) (ts : List (List ℤ)) → AllByRecursion IsLong ts → AllByRecursion IsLong (listed (text_of n o) ++ ts)
  long_more None ts all = all
  long_more (Some xs) ts all = long_by xs (length xs == n) ts refl all

  all_long : (cs : List Choice) → AllByRecursion IsLong (those_known (text_in n) cs)
  all_long [] = tt
  all_long (c ∷ cs) = long_more (leaves_in c) (those_known (text_in n) cs) (all_long cs)

  texts_long : (xs : List Text) (ts : List (List ℤ)) → AreCounted (texts_of xs) ts → AllByRecursion IsLong ts → All (λ (t : Text). length t.positions.items ≡ n) xs
  texts_long [] ts are all = All-nil (λ (t : Text). length t.positions.items ≡ n)
  texts_long (x ∷ xs) [] are all = absurd are
  texts_long (x ∷ xs) (t ∷ ts) are all =
      All-cons (λ (t : Text). length t.positions.items ≡ n) x xs (as_long x.positions.items t are.0 ∙ all.0) (texts_long xs ts are.1 all.1)

  pub choices_long : (xs ys : List Text) (cs : List Choice) → ys ≡ xs → AreCounted (texts_of xs) (those_known (text_in n) cs)
      → All (λ (t : Text). length t.positions.items ≡ n) ys
  choices_long xs ys cs same are =
      subst (All (λ (t : Text). length t.positions.items ≡ n)) (sym same) (texts_long xs (those_known (text_in n) cs) are (all_long cs))
