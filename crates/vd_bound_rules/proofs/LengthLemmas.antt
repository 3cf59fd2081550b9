-- Sums of lengths of choices.
use Rattle.std.proofs.Common.{◌≡◌, ◌+◌, ◌++◌, ◌&&◌, ◌<◌, ◌∷◌, ◌∙◌, Bool, Err, List, None, Ok, Option, Some, [], ap, arith, drop, drop-cons, false, get_or, if◌then◌else◌, length, map, not, refl, subst, suc, sym, true, ℕ}
use Rattle.vd_bound_rules.specs.Written.{length_got, one_more}
use Rattle.vd_bytes.specs.declared.places.Place.{Place}
use Rattle.vd_composites.specs.Ranges.{length_of}
use Rattle.vd_composites.specs.declared.ranges.Bounds.{Bounds}
use Rattle.vd_environments.specs.Environments.{Env}
use Rattle.vd_environments.specs.Got.{Got}
use Rattle.vd_forest.specs.Forest.{Forest, more}
use Rattle.vd_given_choices.specs.Choices.{AreChoices}
use Rattle.vd_given_choices.specs.declared.choices.Choice.{Choice}
use Rattle.vd_meaning.specs.Brackets.{is_positional, positional_count}
use Rattle.vd_meaning.specs.Facets.{nth}
use Rattle.vd_meaning.specs.Meanings.{meanings}
use Rattle.vd_meaning.specs.Tables.{Table}
use Rattle.vd_resolved.specs.declared.node.Resolved.{Resolved}
use Rattle.vd_value_rules.specs.Aggregates.{choices_of_association, choices_of_elements, has_others_element}
use Rattle.vd_value_rules.specs.Bounds.{elements_given, sum_of_lengths}
use Rattle.vd_value_rules.specs.Choices.{Given, are_all_got, early_bounds, those_got}
use Rattle.vd_value_rules.specs.Designs.{Design}
use Rattle.vd_value_rules.specs.Lengths.{plus_length}

-- ---- sums

pub plus_brackets : (a b c : Option ℕ) → plus_length (plus_length a b) c ≡ plus_length a (plus_length b c)
plus_brackets None b c = refl
plus_brackets (Some l) None c = refl
plus_brackets (Some l) (Some m) None = refl
plus_brackets (Some l) (Some m) (Some n) = let e : (l + m) + n ≡ l + (m + n) = omega arith in ap Some e

pub plus_nothing : (a : Option ℕ) → plus_length a (Some 0) ≡ a
plus_nothing None = refl
plus_nothing (Some n) = let e : n + 0 ≡ n = omega arith in ap Some e

nothing_plus : (a : Option ℕ) → plus_length (Some 0) a ≡ a
nothing_plus None = refl
nothing_plus (Some n) = let e : 0 + n ≡ n = omega arith in ap Some e

pub begin_with_nothing : (a : Option ℕ) → a ≡ plus_length (Some 0) a
begin_with_nothing a = sym (nothing_plus a)

-- ---- what choices stand for

one_got : (g : Got Bounds) (gs : List (Got Bounds)) (all : Bool) → all ≡ are_all_got gs
    → length_got (g ∷ gs) ≡ plus_length (length_got (g ∷ [])) (if all then Some (sum_of_lengths (those_got gs)) else None)
one_got (Ok b) gs true is =
    ap (λ (c : Bool). if c then Some (length_of b + sum_of_lengths (those_got gs)) else None) (sym is)
    ∙ (let e : length_of b + sum_of_lengths (those_got gs) ≡ (length_of b + 0) + sum_of_lengths (those_got gs) = omega arith in ap Some e)
one_got (Ok b) gs false is = ap (λ (c : Bool). if c then Some (length_of b + sum_of_lengths (those_got gs)) else None) (sym is)
one_got (Err halt) gs all is = refl

pub got_more : (g : Got Bounds) (gs : List (Got Bounds)) → length_got (g ∷ gs) ≡ plus_length (length_got (g ∷ [])) (length_got gs)
got_more g gs = one_got g gs (are_all_got gs) refl

pub got_both : (gs hs : List (Got Bounds)) → length_got (gs ++ hs) ≡ plus_length (length_got gs) (length_got hs)
got_both [] hs = begin_with_nothing (length_got hs)
got_both (g ∷ gs) hs =
    got_more g (gs ++ hs) ∙ ap (plus_length (length_got (g ∷ []))) (got_both gs hs)
    ∙ sym (plus_brackets (length_got (g ∷ [])) (length_got gs) (length_got hs)) ∙ ap (λ o. plus_length o (length_got hs)) (sym (got_more g gs))

mapped_both : (gs hs : List Given) → map early_bounds (gs ++ hs) ≡ map early_bounds gs ++ map early_bounds hs
mapped_both [] hs = refl
mapped_both (g ∷ gs) hs = ap (λ xs. early_bounds g ∷ xs) (mapped_both gs hs)

-- ---- choices, one after the other

-- with the choices that are left the length comes to that of all
pub record ComesTo (so_far : Option ℕ) (left : List Choice) (all : List (Got Bounds)) : Type 0 where
  pub gs : List Given
  pub are : AreChoices left gs
  pub is : length_got all ≡ plus_length so_far (length_got (map early_bounds gs))

pub comes_at_first : (xs : List Choice) (gs : List Given) → AreChoices xs gs → ComesTo (Some 0) xs (map early_bounds gs)
comes_at_first xs gs are = record { gs = gs; are = are; is = begin_with_nothing (length_got (map early_bounds gs)) }

last_length : (so_far : Option ℕ) (all : List (Got Bounds)) (gs : List Given) → AreChoices [] gs → length_got all ≡ plus_length so_far (length_got (map early_bounds gs))
    → length_got all ≡ so_far
last_length so_far all [] are is = is ∙ plus_nothing so_far
last_length so_far all (g ∷ gs) are is = absurd are

pub comes_at_last : (so_far : Option ℕ) (left : List Choice) (all : List (Got Bounds)) → left ≡ [] → ComesTo so_far left all → length_got all ≡ so_far
comes_at_last so_far [] all none way = last_length so_far all way.gs way.are way.is
comes_at_last so_far (x ∷ left) all none way = absurd (cc)

next_length : (so_far own next : Option ℕ) (x : Choice) (left : List Choice) (all : List (Got Bounds)) (gs : List Given) → AreChoices (x ∷ left) gs
    → ((g : Given) → AreChoices (x ∷ []) (g ∷ []) → length_got (early_bounds g ∷ []) ≡ own) → plus_length so_far own ≡ next
    → length_got all ≡ plus_length so_far (length_got (map early_bounds gs)) → ComesTo next left all
next_length so_far own next x left all [] are one sum is = absurd are
next_length so_far own next x left all (g ∷ gs) are one sum is = record {
  gs = gs;
  are = are.1;
  is = is ∙ ap (plus_length so_far) (got_more (early_bounds g) (map early_bounds gs) ∙ ap (λ o. plus_length o (length_got (map early_bounds gs))) (one g (are.0, tt)))
      ∙ sym (plus_brackets so_far own (length_got (map early_bounds gs))) ∙ ap (λ o. plus_length o (length_got (map early_bounds gs))) sum;
}

pub comes_further : (so_far own next : Option ℕ) (x : Choice) (left whole : List Choice) (all : List (Got Bounds)) → whole ≡ x ∷ left
    → ((g : Given) → AreChoices (x ∷ []) (g ∷ []) → length_got (early_bounds g ∷ []) ≡ own) → plus_length so_far own ≡ next
    → ComesTo so_far whole all → ComesTo next left all
comes_further so_far own next x left whole all begins one sum way =
    next_length so_far own next x left all way.gs (subst (λ xs. AreChoices xs way.gs) begins way.are) one sum way.is

pub choice_here : (xs : List Choice) (i : ℕ) (x : Choice) → i < length xs → x ≡ get_or xs i x → drop i xs ≡ x ∷ drop (i + 1) xs
choice_here xs i x within is =
    let next : suc i ≡ i + 1 = omega arith in
    drop-cons xs i x within ∙ ap (λ y. y ∷ drop (suc i) xs) (sym is) ∙ ap (λ j. x ∷ drop j xs) next

-- ---- elements

module _ (d : Design) (e : Env) (f : Forest Resolved) (n : Resolved) (text : List ℕ) (place : Place) (parts next : Forest Resolved) (is : f ≡ more n text place parts next) where
  pub element_more : (so_far own after : Option ℕ) (all : Option ℕ) → length_got (map early_bounds (choices_of_association n.form d e parts)) ≡ own
      → plus_length so_far own ≡ after → all ≡ plus_length so_far (length_got (map early_bounds (choices_of_elements d e f)))
      → all ≡ plus_length after (length_got (map early_bounds (choices_of_elements d e next)))
  element_more so_far own after all one sum so =
      let behind = length_got (map early_bounds (choices_of_elements d e next)) in
      so ∙ ap (λ g. plus_length so_far (length_got (map early_bounds (choices_of_elements d e g)))) is
      ∙ ap (λ gs. plus_length so_far (length_got gs)) (mapped_both (choices_of_association n.form d e parts) (choices_of_elements d e next))
      ∙ ap (plus_length so_far) (got_both (map early_bounds (choices_of_association n.form d e parts)) (map early_bounds (choices_of_elements d e next))
      ∙ ap (λ o. plus_length o behind) one)
      ∙ sym (plus_brackets so_far own behind) ∙ ap (λ o. plus_length o behind) sum

-- ---- positions

counted_more : (b : Bool) (count rest : ℕ) → count + (if b then suc rest else rest) ≡ one_more b count + rest
counted_more true count rest = omega arith
counted_more false count rest = refl

module _ (t : Table) (f : Forest Resolved) (n : Resolved) (text : List ℕ) (place : Place) (parts next : Forest Resolved) (is : f ≡ more n text place parts next) where
  pub positions_more : (b : Bool) (count more_counted all : ℕ) → b ≡ is_positional (nth 0 (meanings t f)).association → more_counted ≡ one_more b count
      → all ≡ count + positional_count (meanings t f) → all ≡ more_counted + positional_count (meanings t next)
  positions_more b count more_counted all positional counted so =
      let rest = positional_count (meanings t next) in
      so ∙ ap (λ g. count + positional_count (meanings t g)) is
      ∙ ap (λ (c : Bool). count + (if c then suc rest else rest)) (sym (positional ∙ ap (λ g. is_positional (nth 0 (meanings t g)).association) is))
      ∙ counted_more b count rest ∙ ap (λ m. m + rest) (sym counted)

-- ---- all elements

with_others : (b : Bool) (n : ℕ) (gs : List (Got Bounds)) → b ≡ true → None ≡ (if are_all_got gs && not b then Some (n + sum_of_lengths (those_got gs)) else None)
with_others b n gs is = by_all (are_all_got gs) ∙ ap (λ (c : Bool). if are_all_got gs && not c then Some (n + sum_of_lengths (those_got gs)) else None) (sym is)
  where
    by_all : (all : Bool) → None ≡ (if all && false then Some (n + sum_of_lengths (those_got gs)) else None)
    by_all true = refl
    by_all false = refl

no_others : (b : Bool) (n : ℕ) (gs : List (Got Bounds)) → b ≡ false → plus_length (Some n) (length_got gs)
    ≡ (if are_all_got gs && not b then Some (n + sum_of_lengths (those_got gs)) else None)
no_others b n gs is = by_all (are_all_got gs) ∙ ap (λ (c : Bool). if are_all_got gs && not c then Some (n + sum_of_lengths (those_got gs)) else None) (sym is)
  where
    by_all : (all : Bool) → plus_length (Some n) (if all then Some (sum_of_lengths (those_got gs)) else None)
        ≡ (if all && true then Some (n + sum_of_lengths (those_got gs)) else None)
    by_all true = refl
    by_all false = refl

module _ (d : Design) (e : Env) (elements : Forest Resolved) (b : Bool) (others : b ≡ has_others_element elements) where
  pub given_with_others : b ≡ true → elements_given d e elements ≡ None
  given_with_others there =
      sym (with_others (has_others_element elements) (positional_count (meanings d.table elements)) (map early_bounds (choices_of_elements d e elements)) (sym others ∙ there))

  pub given_without : (named after : Option ℕ) (n : ℕ) → b ≡ false → length_got (map early_bounds (choices_of_elements d e elements)) ≡ named
      → positional_count (meanings d.table elements) ≡ n → plus_length (Some n) named ≡ after → elements_given d e elements ≡ after
  given_without named after n absent is count sum =
      sym (no_others (has_others_element elements) (positional_count (meanings d.table elements)) (map early_bounds (choices_of_elements d e elements)) (sym others ∙ absent))
      ∙ ap (λ m. plus_length (Some m) (length_got (map early_bounds (choices_of_elements d e elements)))) count ∙ ap (plus_length (Some n)) is ∙ sum
