-- What is refused of statements with choices, part by part.
use Rattle.std.proofs.Common.{◌≡◌, ◌++◌, List, None, Option, Some, [], ap, ap₂, false, if◌then◌else◌, not, refl, subst, sym, true, ℕ, ◌∙◌}
use Rattle.std.proofs.lemmas.Result.{IfOk-weaker}
use Rattle.std.specs.Prelude.{IfOk, Result}
use Rattle.vd_bytes.specs.declared.answers.Refused.{Refused}
use Rattle.vd_choice_rules.specs.Statements.{broken_by_selector, matched_by}
use Rattle.vd_choice_rules.specs.SelectingStatements.{IsSelecting, IsSelectingIn, comparison_of}
use Rattle.vd_choice_rules.specs.declared.selecting_statements.Selecting.{Selecting}
use Rattle.vd_choice_rules.proofs.TextLemmas.{texts_by_equality, texts_by_matching}
use Rattle.vd_choice_rules.specs.Texts.{texts_refused}
use Rattle.vd_environments.specs.Environments.{Env}
use Rattle.vd_given_choices.proofs.ChoiceLemmas.{none_behind}
use Rattle.vd_walks.proofs.LeastLaws.{least_of_append}
use Rattle.vd_walks.specs.Least.{least_of, lesser}
use Rattle.vd_meaning.specs.Facets.{ByEquality, ByMatching, Comparison}
use Rattle.vd_value_rules.specs.Choices.{Given, array_choices, broken_by_selecting, choices_broken, early_bounds, given_twice, is_array, left_out, matching, not_static, repeated, scalar_choices, scalars_leave_out, share}
use Rattle.vd_value_rules.specs.Choices as rules
use Rattle.vd_value_rules.specs.Judging.{refused_if}
use Rattle.vd_vectors.specs.declared.logics.LogicType.{LogicType}

-- the first of the same refusals
pub found_same : {E : Type 0} (a b : Option Refused) (r : Result (Option Refused) E) → a ≡ b → IfOk r (λ x. x ≡ a) → IfOk r (λ x. x ≡ b)
found_same a b r same = IfOk-weaker r (λ x. x ≡ a) (λ x. x ≡ b) (λ x is. is ∙ same)

-- the first of those of two lists
pub both_found : (a b found : Option Refused) (rs qs : List Refused) → a ≡ least_of rs → b ≡ least_of qs → found ≡ lesser a b → found ≡ least_of (rs ++ qs)
both_found a b found rs qs a_is b_is found_is = found_is ∙ ap₂ lesser a_is b_is ∙ sym (least_of_append rs qs)

-- ---- how choices are compared

module _ (x : Selecting) (s : rules.Selecting) (is : IsSelecting x s) where
  pub by_equality : x.matching ≡ None → s.comparison ≡ ByEquality
  by_equality none = is.comparison ∙ ap comparison_of none

  pub by_matching : (of : LogicType) → x.matching ≡ Some of → s.comparison ≡ ByMatching of
  by_matching of some = is.comparison ∙ ap comparison_of some

pub none_matched : (e : Env) (c : Comparison) (gs : List Given) → c ≡ ByEquality → None ≡ least_of (matched_by c e gs)
none_matched e c gs equal = sym (ap (λ d. least_of (matched_by d e gs)) equal)

pub those_matched : (e : Env) (c : Comparison) (of : LogicType) (gs : List Given) → c ≡ ByMatching of
    → least_of (matching (ByMatching of) e [] gs) ≡ least_of (matched_by c e gs)
those_matched e c of gs matches = sym (ap (λ d. least_of (matched_by d e gs)) matches)

-- ---- selectors of array types

module _ (e : Env) (n : ℕ) (s : rules.Selecting) where
  texts_and_matched : (c : Comparison) → s.comparison ≡ c → array_choices e (Some n) s ≡ texts_refused n s ++ matched_by s.comparison e s.choices
  texts_and_matched ByEquality is =
      texts_by_equality e n s is ∙ sym (none_behind (texts_refused n s)) ∙ ap (λ d. texts_refused n s ++ matched_by d e s.choices) (sym is)
  texts_and_matched (ByMatching of) is =
      texts_by_matching e n of s is ∙ ap (λ d. texts_refused n s ++ matched_by d e s.choices) (sym is)

  pub counted_refused : (a b found : Option Refused) → a ≡ least_of (texts_refused n s) → b ≡ least_of (matched_by s.comparison e s.choices)
      → found ≡ lesser a b → found ≡ least_of (array_choices e (Some n) s)
  counted_refused a b found a_is b_is found_is =
      both_found a b found (texts_refused n s) (matched_by s.comparison e s.choices) a_is b_is found_is
      ∙ sym (ap least_of (texts_and_matched s.comparison refl))

-- ---- scalar selectors

pub scalars_refused : (e : Env) (of : LogicType) (x : Selecting) (s : rules.Selecting) (missing repeats matches both found : Option Refused) → IsSelecting x s
    → s.comparison ≡ ByMatching of → missing ≡ least_of (refused_if (not x.has_others) x.place 403) → repeats ≡ least_of (repeated share early_bounds [] s.choices)
    → matches ≡ least_of (matching (ByMatching of) e [] s.choices) → both ≡ lesser repeats matches → found ≡ lesser missing both
    → found ≡ least_of (scalar_choices e s)
scalars_refused e of x s missing repeats matches both found is compared missing_is repeats_is matches_is both_is found_is =
    let twice = repeated share early_bounds [] s.choices ++ matching (ByMatching of) e [] s.choices in
    both_found missing both found (refused_if (not s.has_others) s.place 403) twice
    (missing_is ∙ ap (λ b. least_of (refused_if (not b) x.place 403)) (sym is.others) ∙ ap (λ p. least_of (refused_if (not s.has_others) p 403)) (sym is.place))
    (both_found repeats matches both (repeated share early_bounds [] s.choices) (matching (ByMatching of) e [] s.choices) repeats_is matches_is both_is) found_is
    ∙ sym (ap (λ c. least_of (left_out c (scalars_leave_out s) s ++ given_twice c e share early_bounds s)) compared)

-- ---- by the selector's type

module _ (e : Env) (x : Selecting) (s : rules.Selecting) (is : IsSelecting x s) where
  pub of_arrays : x.shape.is_array ≡ true → least_of (array_choices e s.selector.length s) ≡ least_of (broken_by_selector e s)
  of_arrays array = sym (ap (λ b. least_of (if b then array_choices e s.selector.length s else scalar_choices e s)) (is.shape.array ∙ array))

  pub of_scalars : x.shape.is_array ≡ false → least_of (scalar_choices e s) ≡ least_of (broken_by_selector e s)
  of_scalars scalar = sym (ap (λ b. least_of (if b then array_choices e s.selector.length s else scalar_choices e s)) (is.shape.array ∙ scalar))

pub all_refused : (e : Env) (s : rules.Selecting) (later broken found : Option Refused) → later ≡ least_of (not_static s.choices)
    → broken ≡ least_of (broken_by_selector e s) → found ≡ lesser later broken → found ≡ least_of (choices_broken e s)
all_refused e s later broken found = both_found later broken found (not_static s.choices) (broken_by_selector e s)

-- ---- statements

pub no_statement : (e : Env) (x : Option Selecting) (o : Option rules.Selecting) → x ≡ None → IsSelectingIn x o → None ≡ least_of (broken_by_selecting e o)
no_statement e x o none is = none_there o (subst (λ y. IsSelectingIn y o) none is)
  where
    none_there : (o : Option rules.Selecting) → IsSelectingIn None o → None ≡ least_of (broken_by_selecting e o)
    none_there None is = refl
    none_there (Some s) is = absurd is

pub statement_refused : {E : Type 0} (e : Env) (x : Option Selecting) (y : Selecting) (o : Option rules.Selecting) (r : Result (Option Refused) E)
    → x ≡ Some y → IsSelectingIn x o → ((s : rules.Selecting) → IsSelecting y s → IfOk r (λ found. found ≡ least_of (choices_broken e s)))
    → IfOk r (λ found. found ≡ least_of (broken_by_selecting e o))
statement_refused e x y o r some is refused = one_there o (subst (λ z. IsSelectingIn z o) some is)
  where
    one_there : (o : Option rules.Selecting) → IsSelectingIn (Some y) o → IfOk r (λ found. found ≡ least_of (broken_by_selecting e o))
    one_there None is = absurd is
    one_there (Some s) is = refused s is
