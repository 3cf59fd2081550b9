-- What is refused of choices of selectors of array types, without choices that match and with them, is refused by none of the rules of names.
use Rattle.std.proofs.Common.{◌≡◌, ◌∷◌, ◌++◌, Bool, List, None, Option, Some, [], ap, false, not, refl, sym, ℕ, ◌∙◌, ◌&&◌}
use Rattle.std.proofs.lemmas.List.{append_assoc}
use Rattle.vd_choice_rules.specs.Texts.{texts_refused}
use Rattle.vd_composites.specs.Composites.{Value}
use Rattle.vd_environments.specs.Environments.{Env}
use Rattle.vd_environments.specs.Got.{Got}
use Rattle.vd_given_choices.proofs.RuleLemmas.{AreOfRules, both_of_rules, one_of_rules, repeated_of_rules}
use Rattle.vd_meaning.specs.Facets.{ByEquality, ByMatching, Comparison}
use Rattle.vd_value_rules.specs.Choices.{Given, Selecting, any_matches, array_choices, early_text, given_twice, has_other_length, left_out, matching, other_lengths, repeated, same_text, texts_leave_out, values_of_choice, values_or_none}
use Rattle.vd_value_rules.specs.Judging.{refused_if}
use Rattle.vd_values.specs.declared.scalar.Scalar.{Scalar}
use Rattle.vd_vectors.specs.declared.logics.LogicType.{LogicType}

-- ---- with choices that match and without

twice_by_equality : {A : Type 0} (c : Comparison) (e : Env) (shared : A → A → Bool) (early : Given → Got A) (x : Selecting) → c ≡ ByEquality
    → given_twice c e shared early x ≡ repeated shared early [] x.choices
twice_by_equality c e shared early x equal = ap (λ d. given_twice d e shared early x) equal

twice_by_matching : {A : Type 0} (c : Comparison) (e : Env) (of : LogicType) (shared : A → A → Bool) (early : Given → Got A) (x : Selecting) → c ≡ ByMatching of
    → given_twice c e shared early x ≡ repeated shared early [] x.choices ++ matching (ByMatching of) e [] x.choices
twice_by_matching c e of shared early x matches = ap (λ d. given_twice d e shared early x) matches

pub texts_by_equality : (e : Env) (n : ℕ) (x : Selecting) → x.comparison ≡ ByEquality → array_choices e (Some n) x ≡ texts_refused n x
texts_by_equality e n x equal =
    ap (λ rs. refused_if (not x.is_selectable) x.selector_place 405 ++ other_lengths n x.choices ++ left_out x.comparison (texts_leave_out n x) x ++ rs)
    (twice_by_equality x.comparison e same_text (early_text n) x equal)

pub texts_by_matching : (e : Env) (n : ℕ) (of : LogicType) (x : Selecting) → x.comparison ≡ ByMatching of
    → array_choices e (Some n) x ≡ texts_refused n x ++ matching (ByMatching of) e [] x.choices
texts_by_matching e n of x matches =
    let unselectable = refused_if (not x.is_selectable) x.selector_place 405 in
    let others = left_out x.comparison (texts_leave_out n x) x in
    ap (λ rs. unselectable ++ other_lengths n x.choices ++ others ++ rs) (twice_by_matching x.comparison e of same_text (early_text n) x matches)
    ∙ sym (append_assoc (unselectable ++ other_lengths n x.choices ++ others) (repeated same_text (early_text n) [] x.choices) (matching (ByMatching of) e [] x.choices))

-- ---- none of the rules of names

pub matching_of_rules : (c : Comparison) (e : Env) (before : List (Value Scalar)) (gs : List Given) → AreOfRules (matching c e before gs)
matching_of_rules c e before [] = refl
matching_of_rules c e before (g ∷ gs) =
    let vs = values_or_none (values_of_choice e g) in
    both_of_rules (refused_if (any_matches c before vs) g.place 404) (matching c e (before ++ vs) gs) (one_of_rules (any_matches c before vs) g.place 404 refl)
    (matching_of_rules c e (before ++ vs) gs)

other_lengths_of_rules : (n : ℕ) (gs : List Given) → AreOfRules (other_lengths n gs)
other_lengths_of_rules n [] = refl
other_lengths_of_rules n (g ∷ gs) =
    both_of_rules (refused_if (g.is_static && has_other_length n g.value) g.place 405) (other_lengths n gs)
    (one_of_rules (g.is_static && has_other_length n g.value) g.place 405 refl) (other_lengths_of_rules n gs)

left_out_of_rules : (c : Comparison) (b : Bool) (x : Selecting) → AreOfRules (left_out c b x)
left_out_of_rules (ByMatching of) b x = one_of_rules (not x.has_others) x.place 403 refl
left_out_of_rules ByEquality b x = one_of_rules (b && not x.has_others) x.place 403 refl

twice_of_rules : {A : Type 0} (c : Comparison) (e : Env) (shared : A → A → Bool) (early : Given → Got A) (x : Selecting) → AreOfRules (given_twice c e shared early x)
twice_of_rules (ByMatching of) e shared early x =
    both_of_rules (repeated shared early [] x.choices) (matching (ByMatching of) e [] x.choices) (repeated_of_rules shared early [] x.choices)
    (matching_of_rules (ByMatching of) e [] x.choices)
twice_of_rules ByEquality e shared early x = repeated_of_rules shared early [] x.choices

pub array_of_rules : (e : Env) (o : Option ℕ) (x : Selecting) → AreOfRules (array_choices e o x)
array_of_rules e None x = left_out_of_rules x.comparison false x
array_of_rules e (Some n) x =
    let unselectable = refused_if (not x.is_selectable) x.selector_place 405 in
    let others = left_out x.comparison (texts_leave_out n x) x in
    let twice = given_twice x.comparison e same_text (early_text n) x in
    both_of_rules (unselectable ++ other_lengths n x.choices ++ others) twice
    (both_of_rules (unselectable ++ other_lengths n x.choices) others
    (both_of_rules unselectable (other_lengths n x.choices) (one_of_rules (not x.is_selectable) x.selector_place 405 refl) (other_lengths_of_rules n x.choices))
    (left_out_of_rules x.comparison (texts_leave_out n x) x))
    (twice_of_rules x.comparison e same_text (early_text n) x)
