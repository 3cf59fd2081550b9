-- What is refused of choices is what is refused by what is known of them.
use Rattle.std.proofs.Common.{◌≡◌, ◌∷◌, ◌++◌, Bool, List, None, Option, Some, [], ap, false, map, not, refl, subst, sym, true, ◌∙◌, ◌&&◌, ℕ, ◌<◌, ◌≤◌, ◌+◌, drop, get_or, length}
use Rattle.std.specs.Prelude.{Err, Ok, is_some}
use Rattle.std.specs.List.{list_all}
use Rattle.std.proofs.lemmas.List.{append_assoc, drop_all, drop_more}
use Rattle.vd_bytes.specs.declared.answers.Refused.{Refused}
use Rattle.vd_environments.specs.Got.{Got, is_got}
use Rattle.vd_given_choices.specs.Choices.{AreChoices, IsChoice}
use Rattle.vd_given_choices.specs.Refusals.{bounds_in, known_where, listed, not_static_in, repeated_known, repeats_known, those_known}
use Rattle.vd_given_choices.specs.declared.choices.Choice.{Choice}
use Rattle.vd_walks.specs.Least.{least_of, lesser}
use Rattle.vd_walks.proofs.LeastLaws.{least_of_append}
use Rattle.vd_walks.proofs.OrderLaws.{lesser_brackets, lesser_right}
use Rattle.vd_static_values.specs.Entries.{IsFound}
use Rattle.vd_value_rules.specs.Choices.{Given, and_got, are_all_got, early, early_bounds, leave_out, not_static, repeated, repeats_in, those_got, with_got}
use Rattle.vd_value_rules.specs.Judging.{refused_if}

-- ---- refusals in front of others

-- the refusal found so far, one more, and those that are left
pub more_refused : (found here : Option Refused) (rs qs : List Refused) → here ≡ least_of rs
    → lesser (lesser found here) (least_of qs) ≡ lesser found (least_of (rs ++ qs))
more_refused found here rs qs is =
    lesser_brackets found here (least_of qs) ∙ ap (λ o. lesser found (lesser o (least_of qs))) is ∙ ap (lesser found) (sym (least_of_append rs qs))

-- ---- choices that aren't locally static

pub same_not_static : (xs : List Choice) (gs : List Given) → AreChoices xs gs → not_static gs ≡ not_static_in xs
same_not_static [] [] are = refl
same_not_static [] (g ∷ gs) are = absurd are
same_not_static (x ∷ xs) [] are = absurd are
same_not_static (x ∷ xs) (g ∷ gs) are =
    ap (λ b. refused_if (not b) g.place 406 ++ not_static gs) are.0.static ∙ ap (λ p. refused_if (not x.is_static) p 406 ++ not_static gs) are.0.place
    ∙ ap (λ rs. refused_if (not x.is_static) x.place 406 ++ rs) (same_not_static xs gs are.1)

-- ---- what is known of choices

pub known_by : {A : Type 0} (b : Bool) (o : Option A) (r : Got A) → (b ≡ true → IsFound o r) → IsFound (known_where b o) (early b r)
known_by true o r found = found refl
known_by false o r found = refl

pub known_early : {A : Type 0} (b c : Bool) (o : Option A) (r : Got A) → b ≡ c → (c ≡ true → IsFound o r) → IsFound (known_where c o) (early b r)
known_early b c o r same found = subst (λ d. IsFound (known_where c o) (early d r)) (sym same) (known_by c o r found)

pub bounds_found : (x : Choice) (g : Given) → IsChoice x g → IsFound (bounds_in x) (early_bounds g)
bounds_found x g is = known_early g.is_static x.is_static x.range g.range is.static is.range

module _ {A : Type 0} where
  same_got : (o : Option A) (r : Got A) → IsFound o r → is_some o ≡ is_got r
  same_got None r found = sym found
  same_got (Some a) r found = ap is_got (sym found)

  same_listed : (o : Option A) (r : Got A) (xs : List A) → IsFound o r → listed o ++ xs ≡ and_got r xs
  same_listed None (Ok a) xs found = let no : true ≡ false = found in cc
  same_listed None (Err h) xs found = refl
  same_listed (Some a) r xs found = ap (λ r. and_got r xs) (sym found)

  nothing_more : (xs : List A) → xs ++ [] ≡ xs
  nothing_more [] = refl
  nothing_more (x ∷ xs) = rw (nothing_more xs) refl

  same_with : (o : Option A) (r : Got A) (xs : List A) → IsFound o r → with_got xs r ≡ xs ++ listed o
  same_with None (Ok a) xs found = let no : true ≡ false = found in cc
  same_with None (Err h) xs found = sym (nothing_more xs)
  same_with (Some a) r xs found = ap (with_got xs) found

  same_repeats : (shared : A → A → Bool) (before : List A) (o : Option A) (r : Got A) → IsFound o r → repeats_in shared before r ≡ repeats_known shared before o
  same_repeats shared before None (Ok a) found = let no : true ≡ false = found in cc
  same_repeats shared before None (Err h) found = refl
  same_repeats shared before (Some a) r found = ap (repeats_in shared before) found

  module _ (of : Choice → Option A) (early_of : Given → Got A) (same : (x : Choice) (g : Given) → IsChoice x g → IsFound (of x) (early_of g)) where
    pub same_all_known : (xs : List Choice) (gs : List Given) → AreChoices xs gs → are_all_got (map early_of gs) ≡ list_all (λ x. is_some (of x)) xs
    same_all_known [] [] are = refl
    same_all_known [] (g ∷ gs) are = absurd are
    same_all_known (x ∷ xs) [] are = absurd are
    same_all_known (x ∷ xs) (g ∷ gs) are =
        ap (λ b. b && are_all_got (map early_of gs)) (sym (same_got (of x) (early_of g) (same x g are.0)))
        ∙ ap (λ b. is_some (of x) && b) (same_all_known xs gs are.1)

    pub same_known : (xs : List Choice) (gs : List Given) → AreChoices xs gs → those_got (map early_of gs) ≡ those_known of xs
    same_known [] [] are = refl
    same_known [] (g ∷ gs) are = absurd are
    same_known (x ∷ xs) [] are = absurd are
    same_known (x ∷ xs) (g ∷ gs) are =
        sym (same_listed (of x) (early_of g) (those_got (map early_of gs)) (same x g are.0)) ∙ ap (λ ys. listed (of x) ++ ys) (same_known xs gs are.1)

    pub same_left_out : (all : List A → Bool) (xs : List Choice) (gs : List Given) → AreChoices xs gs
        → leave_out (map early_of gs) all ≡ (list_all (λ x. is_some (of x)) xs && not (all (those_known of xs)))
    same_left_out all xs gs are =
        ap (λ b. b && not (all (those_got (map early_of gs)))) (same_all_known xs gs are)
        ∙ ap (λ ys. list_all (λ x. is_some (of x)) xs && not (all ys)) (same_known xs gs are)

    pub same_repeated : (shared : A → A → Bool) (before : List A) (xs : List Choice) (gs : List Given) → AreChoices xs gs
        → repeated shared early_of before gs ≡ repeated_known shared of before xs
    same_repeated shared before [] [] are = refl
    same_repeated shared before [] (g ∷ gs) are = absurd are
    same_repeated shared before (x ∷ xs) [] are = absurd are
    same_repeated shared before (x ∷ xs) (g ∷ gs) are =
        ap (λ b. refused_if b g.place 404 ++ repeated shared early_of (with_got before (early_of g)) gs)
        (same_repeats shared before (of x) (early_of g) (same x g are.0))
        ∙ ap (λ p. refused_if (repeats_known shared before (of x)) p 404 ++ repeated shared early_of (with_got before (early_of g)) gs) are.0.place
        ∙ ap (λ bs. refused_if (repeats_known shared before (of x)) x.place 404 ++ repeated shared early_of bs gs)
        (same_with (of x) (early_of g) before (same x g are.0))
        ∙ ap (λ rs. refused_if (repeats_known shared before (of x)) x.place 404 ++ rs) (same_repeated shared (before ++ listed (of x)) xs gs are.1)

  -- ---- lists so far

  pub more_known : (of : Choice → Option A) (known : List A) (x : Choice) (xs : List Choice)
      → (known ++ listed (of x)) ++ those_known of xs ≡ known ++ those_known of (x ∷ xs)
  more_known of known x xs = append_assoc known (listed (of x)) (those_known of xs)

-- ---- one choice more, and none

module _ (xs : List Choice) (j : ℕ) (found : Option Refused) where
  front : (x : Choice) → j < length xs → x ≡ get_or xs j x → drop j xs ≡ x ∷ drop (j + 1) xs
  front x within is = drop_more xs j x within ∙ ap (λ y. y ∷ drop (j + 1) xs) (sym is)

  pub static_more : (x : Choice) (here now all : Option Refused) → j < length xs → x ≡ get_or xs j x
      → here ≡ least_of (refused_if (not x.is_static) x.place 406) → now ≡ lesser found here
      → lesser found (least_of (not_static_in (drop j xs))) ≡ all → lesser now (least_of (not_static_in (drop (j + 1) xs))) ≡ all
  static_more x here now all within is here_is now_is before =
      ap (λ o. lesser o (least_of (not_static_in (drop (j + 1) xs)))) now_is
      ∙ more_refused found here (refused_if (not x.is_static) x.place 406) (not_static_in (drop (j + 1) xs)) here_is
      ∙ ap (λ l. lesser found (least_of (not_static_in l))) (sym (front x within is)) ∙ before

  pub static_end : (gs : List Given) → length xs ≤ j → lesser found (least_of (not_static_in (drop j xs))) ≡ least_of (not_static_in xs)
      → AreChoices xs gs → found ≡ least_of (not_static gs)
  static_end gs past all are =
      sym (lesser_right found) ∙ ap (λ l. lesser found (least_of (not_static_in l))) (sym (drop_all j xs past)) ∙ all
      ∙ ap least_of (sym (same_not_static xs gs are))

  pub repeated_more : {A : Type 0} (shared : A → A → Bool) (of : Choice → Option A) (known later : List A) (x : Choice) (repeats : Bool) (here now all : Option Refused)
      → j < length xs → x ≡ get_or xs j x → repeats ≡ repeats_known shared known (of x)
      → here ≡ least_of (refused_if repeats x.place 404) → now ≡ lesser found here → later ≡ known ++ listed (of x)
      → lesser found (least_of (repeated_known shared of known (drop j xs))) ≡ all → lesser now (least_of (repeated_known shared of later (drop (j + 1) xs))) ≡ all
  repeated_more shared of known later x repeats here now all within is repeats_is here_is now_is later_is before =
      let rest = repeated_known shared of (known ++ listed (of x)) (drop (j + 1) xs) in
      ap (λ o. lesser o (least_of (repeated_known shared of later (drop (j + 1) xs)))) now_is
      ∙ ap (λ l. lesser (lesser found here) (least_of (repeated_known shared of l (drop (j + 1) xs)))) later_is
      ∙ more_refused found here (refused_if (repeats_known shared known (of x)) x.place 404) rest
      (here_is ∙ ap (λ b. least_of (refused_if b x.place 404)) repeats_is)
      ∙ ap (λ l. lesser found (least_of (repeated_known shared of known l))) (sym (front x within is)) ∙ before

  pub repeated_end : {A : Type 0} (shared : A → A → Bool) (of : Choice → Option A) (early_of : Given → Got A) (known : List A) (gs : List Given)
      → ((x : Choice) (g : Given) → IsChoice x g → IsFound (of x) (early_of g)) → length xs ≤ j
      → lesser found (least_of (repeated_known shared of known (drop j xs))) ≡ least_of (repeated_known shared of [] xs) → AreChoices xs gs
      → found ≡ least_of (repeated shared early_of [] gs)
  repeated_end shared of early_of known gs same past all are =
      sym (lesser_right found) ∙ ap (λ l. lesser found (least_of (repeated_known shared of known l))) (sym (drop_all j xs past)) ∙ all
      ∙ ap least_of (sym (same_repeated of early_of same shared [] xs gs are))
