-- Texts in a set, and choices one after the other.
use Rattle.std.proofs.Common.{◌≡◌, ◌∷◌, ◌++◌, ◌<◌, ◌≤◌, ◌+◌, Bool, List, Option, [], ap, ap₂, drop, false, get_or, length, not, refl, subst, sym, take, true, ℕ, ℤ, ◌∙◌, ◌&&◌, ◌||◌, if◌then◌else◌}
use Rattle.indexmap.specs.IndexSet.{insert_key}
use Rattle.std.proofs.lemmas.Cmp.{int_eq_equiv}
use Rattle.std.proofs.lemmas.List.{append_assoc, drop_all, drop_more, take_more}
use Rattle.std.proofs.lemmas.List.Folds.{list_any-append}
use Rattle.std.specs.Cmp.Rules.{signed_items}
use Rattle.std.specs.Global.{Global}
use Rattle.std.specs.List.{list_any}
use Rattle.std.specs.Ordering.{int_eq}
use Rattle.std.specs.Prelude.{Vec}
use lib.Pointwise.{pointwise}
use Rattle.vd_bytes.specs.declared.answers.Refused.{Refused}
use Rattle.vd_choice_rules.specs.Texts.{HasTexts, has_text, is_other_length, leaves_in, other_lengths_in}
use Rattle.vd_given_choices.proofs.ChoiceLemmas.{none_behind}
use Rattle.vd_given_choices.proofs.RefusalLemmas.{more_refused}
use Rattle.vd_given_choices.specs.Refusals.{listed, those_known}
use Rattle.vd_given_choices.specs.declared.choices.Choice.{Choice}
use Rattle.vd_walks.proofs.OrderLaws.{lesser_right}
use Rattle.vd_walks.specs.Least.{least_of, lesser}
use Rattle.vd_value_rules.specs.Choices.{same_text}
use Rattle.vd_value_rules.specs.Judging.{refused_if}

-- ---- texts that are the same

same_points : (t u : List ℤ) → same_text t u ≡ pointwise int_eq u t
same_points [] [] = refl
same_points [] (j ∷ u) = refl
same_points (i ∷ t) [] = refl
same_points (i ∷ t) (j ∷ u) = ap₂ (λ a b. a && b) (int_eq_equiv.symm i j) (same_points t u)

or_true : (b : Bool) → (b || (true || false)) ≡ true
or_true true = refl
or_true false = refl

or_false : (b : Bool) → (b || (false || false)) ≡ b
or_false true = refl
or_false false = refl

twice_not : (a b : Bool) → a ≡ not b → not a ≡ b
twice_not a true is = ap not is
twice_not a false is = ap not is

-- ---- a set of texts

abbrev pub equal : Vec ℤ Global → Vec ℤ Global → Bool
equal v w = pointwise int_eq v.items w.items

module _ (keys : List (Vec ℤ Global)) (known : List (List ℤ)) (v : Vec ℤ Global) (has : HasTexts keys known) where
  pub was_there : (is_new : Bool) → is_new ≡ not (list_any (equal v) keys) → not is_new ≡ list_any (λ earlier. same_text earlier v.items) known
  was_there is_new is = twice_not is_new (list_any (equal v) keys) is ∙ has v.items

  with_more : (text : List ℤ) → list_any (λ earlier. same_text earlier text) (known ++ v.items ∷ [])
      ≡ (list_any (λ earlier. same_text earlier text) known || (same_text v.items text || false))
  with_more text = list_any-append (λ earlier. same_text earlier text) known (v.items ∷ [])

  grown : HasTexts (keys ++ v ∷ []) (known ++ v.items ∷ [])
  grown = λ text.
      list_any-append (λ key. pointwise int_eq text key.items) keys (v ∷ [])
      ∙ ap₂ (λ a b. a || (b || false)) (has text) (sym (same_points v.items text)) ∙ sym (with_more text)

  kept_by : (text : List ℤ) (b : Bool) → same_text v.items text ≡ b → list_any (equal v) keys ≡ true
      → has_text keys text ≡ list_any (λ earlier. same_text earlier text) (known ++ v.items ∷ [])
  kept_by text true same old =
      let one : text ≡ v.items = (signed_items text v.items).0 (sym (same_points v.items text) ∙ same) in
      subst (λ t. has_text keys t ≡ true) (sym one) old
      ∙ sym (with_more text ∙ ap (λ b. list_any (λ earlier. same_text earlier text) known || (b || false)) same ∙ or_true (list_any (λ earlier. same_text earlier text) known))
  kept_by text false other old =
      has text
      ∙ sym (with_more text ∙ ap (λ b. list_any (λ earlier. same_text earlier text) known || (b || false)) other ∙ or_false (list_any (λ earlier. same_text earlier text) known))

  inserted : (b : Bool) → list_any (equal v) keys ≡ b → HasTexts (if b then keys else keys ++ v ∷ []) (known ++ v.items ∷ [])
  inserted true old = λ text. kept_by text (same_text v.items text) refl old
  inserted false new = grown

  pub now_there : (after : List (Vec ℤ Global)) → after ≡ insert_key equal keys v → HasTexts after (known ++ v.items ∷ [])
  now_there after is = subst (λ ks. HasTexts ks (known ++ v.items ∷ [])) (sym is) (inserted (list_any (equal v) keys) refl)

pub none_more : (keys : List (Vec ℤ Global)) (known : List (List ℤ)) → HasTexts keys known → HasTexts keys (known ++ [])
none_more keys known has = subst (HasTexts keys) (sym (none_behind known)) has

-- ---- choices so far

module _ {A : Type 0} (of : Choice → Option A) where
  those_behind : (xs ys : List Choice) → those_known of (xs ++ ys) ≡ those_known of xs ++ those_known of ys
  those_behind [] ys = refl
  those_behind (x ∷ xs) ys = ap (λ l. listed (of x) ++ l) (those_behind xs ys) ∙ sym (append_assoc (listed (of x)) (those_known of xs) (those_known of ys))

  pub those_more : (xs : List Choice) (j : ℕ) (x : Choice) → j < length xs → x ≡ get_or xs j x
      → those_known of (take (j + 1) xs) ≡ those_known of (take j xs) ++ listed (of x)
  those_more xs j x within is =
      ap (those_known of) (take_more xs j x within ∙ ap (λ y. take j xs ++ y ∷ []) (sym is)) ∙ those_behind (take j xs) (x ∷ [])
      ∙ ap (λ l. those_known of (take j xs) ++ l) (none_behind (listed (of x)))

-- ---- choices of another length

module _ (n : ℕ) (xs : List Choice) (j : ℕ) (found : Option Refused) where
  pub other_more : (x : Choice) (is_other : Bool) (here now all : Option Refused) → j < length xs → x ≡ get_or xs j x → is_other ≡ is_other_length n (leaves_in x)
      → here ≡ least_of (refused_if is_other x.place 405) → now ≡ lesser found here
      → lesser found (least_of (other_lengths_in n (drop j xs))) ≡ all → lesser now (least_of (other_lengths_in n (drop (j + 1) xs))) ≡ all
  other_more x is_other here now all within is other_is here_is now_is before =
      ap (λ o. lesser o (least_of (other_lengths_in n (drop (j + 1) xs)))) now_is
      ∙ more_refused found here (refused_if (is_other_length n (leaves_in x)) x.place 405) (other_lengths_in n (drop (j + 1) xs))
      (here_is ∙ ap (λ b. least_of (refused_if b x.place 405)) other_is)
      ∙ ap (λ l. lesser found (least_of (other_lengths_in n l))) (sym (drop_more xs j x within ∙ ap (λ y. y ∷ drop (j + 1) xs) (sym is))) ∙ before

  pub other_end : length xs ≤ j → lesser found (least_of (other_lengths_in n (drop j xs))) ≡ least_of (other_lengths_in n xs) → found ≡ least_of (other_lengths_in n xs)
  other_end past all =
      sym (lesser_right found) ∙ ap (λ l. lesser found (least_of (other_lengths_in n l))) (sym (drop_all j xs past)) ∙ all
