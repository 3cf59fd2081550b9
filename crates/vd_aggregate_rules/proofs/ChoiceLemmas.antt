-- Choices of the elements of aggregates.
use Rattle.std.proofs.Common.{◌≡◌, ◌∷◌, ◌++◌, List, [], ap, not, refl, subst, sym, true, false, Bool, Option, ℕ, ◌∙◌, ◌&&◌}
use Rattle.std.specs.Global.{Global}
use Rattle.std.specs.Prelude.{Err, IfOk, Ok, Result, Vec, is_some}
use Rattle.std.specs.List.{list_all}
use Rattle.std.proofs.lemmas.List.{append_assoc}
use Rattle.vd_bytes.specs.declared.answers.Refused.{Refused}
use Rattle.vd_bytes.specs.declared.places.Place.{Place}
use Rattle.vd_composites.specs.Aggregates.{chosen_bounds}
use Rattle.vd_composites.specs.declared.ranges.Bounds.{Bounds}
use Rattle.vd_environments.specs.Environments.{Env}
use Rattle.vd_forest.specs.Forest.{Forest, more, nothing, parts_of}
use Rattle.vd_forms.specs.declared.form.Form.{Form}
use Rattle.vd_given_choices.proofs.ChoiceLemmas.{joined, none_behind}
use Rattle.vd_given_choices.proofs.RefusalLemmas.{bounds_found, same_left_out}
use Rattle.vd_given_choices.specs.Choices.{AreChoices}
use Rattle.vd_given_choices.specs.Refusals.{bounds_in, those_known}
use Rattle.vd_given_choices.specs.declared.choices.Choice.{Choice}
use Rattle.vd_walks.specs.Least.{least_of, lesser}
use Rattle.vd_walks.proofs.LeastLaws.{least_of_append}
use Rattle.vd_resolved.specs.declared.node.Resolved.{Resolved}
use Rattle.vd_value_rules.specs.Aggregates.{array_broken, array_leaves_out, choices_of_association, choices_of_elements, has_others_element, leave_gap}
use Rattle.vd_value_rules.specs.Choices.{Given, are_covered, choices_given, early_bounds, not_static, repeated, share}
use Rattle.vd_value_rules.specs.Designs.{Design}
use Rattle.vd_value_rules.specs.Judging.{refused_if}
use Rattle.vd_forms.specs.declared.form.Form.TheVariants as form

-- what is made of the elements so far
abbrev pub IsMade : Design → Env → Forest Resolved → Forest Resolved → List Choice → Type 0
IsMade d e elements rest xs = (ys : List Choice) → AreChoices ys (choices_of_elements d e rest) → AreChoices (xs ++ ys) (choices_of_elements d e elements)

module _ (d : Design) (e : Env) (elements : Forest Resolved) where
  made_of : (n : Resolved) (text : List ℕ) (place : Place) (parts next : Forest Resolved) (xs more_xs : List Choice)
      → AreChoices more_xs (choices_of_association n.form d e parts) → IsMade d e elements (more n text place parts next) xs
      → IsMade d e elements next (xs ++ more_xs)
  made_of n text place parts next xs more_xs are made = λ ys those.
      subst (λ l. AreChoices l (choices_of_elements d e elements)) (sym (append_assoc xs more_xs ys))
      (made (more_xs ++ ys) (joined more_xs ys (choices_of_association n.form d e parts) (choices_of_elements d e next) are those))

  pub made_more : (rest : Forest Resolved) (n : Resolved) (text : List ℕ) (place : Place) (parts next : Forest Resolved) (xs more_xs now : List Choice)
      → rest ≡ more n text place parts next → now ≡ xs ++ more_xs
      → AreChoices more_xs (choices_of_association n.form d e parts) → IsMade d e elements rest xs → IsMade d e elements next now
  made_more rest n text place parts next xs more_xs now is pushed are made =
      subst (λ l. IsMade d e elements next l) (sym pushed) (made_of n text place parts next xs more_xs are (subst (λ f. IsMade d e elements f xs) is made))

  pub made_all : (rest : Forest Resolved) (xs : List Choice) → rest ≡ nothing → IsMade d e elements rest xs → AreChoices xs (choices_of_elements d e elements)
  made_all rest xs none made =
      subst (λ l. AreChoices l (choices_of_elements d e elements)) (none_behind xs) (subst (λ f. IsMade d e elements f xs) none made [] tt)

-- ---- gaps

twice_not : (b : Bool) → not (not b) ≡ b
twice_not true = refl
twice_not false = refl

module _ (xs : List Choice) (gs : List Given) (are : AreChoices xs gs) where
  left_out : array_leaves_out gs ≡ (list_all (λ x. is_some (bounds_in x)) xs && leave_gap (those_known bounds_in xs))
  left_out =
      same_left_out bounds_in early_bounds bounds_found (λ bs. not (leave_gap bs)) xs gs are
      ∙ ap (λ b. list_all (λ x. is_some (bounds_in x)) xs && b) (twice_not (leave_gap (those_known bounds_in xs)))

  pub not_all_known : (all : Bool) → all ≡ list_all (λ x. is_some (bounds_in x)) xs → all ≡ false → false ≡ array_leaves_out gs
  not_all_known all is none =
      sym (left_out ∙ ap (λ b. b && leave_gap (those_known bounds_in xs)) (sym is ∙ none))

  pub gap_left : (all covered : Bool) (bs cs : List Bounds) (within : Bounds) → all ≡ list_all (λ x. is_some (bounds_in x)) xs → all ≡ true
      → bs ≡ those_known bounds_in xs → cs ≡ bs → within ≡ chosen_bounds false cs → covered ≡ are_covered within cs → not covered ≡ array_leaves_out gs
  gap_left all covered bs cs within is known those same chosen covers =
      ap not (covers ∙ ap (λ w. are_covered w cs) chosen ∙ ap (λ l. are_covered (chosen_bounds false l) l) (same ∙ those))
      ∙ sym (left_out ∙ ap (λ b. b && leave_gap (those_known bounds_in xs)) (sym is ∙ known))

-- ---- what is refused of choices

pub refused_of_choices : (e : Env) (is_bounded : Bool) (place : Place) (elements : Forest Resolved) (gs : List Given) (has_others gap : Bool)
    (later repeats of_choices missing unbounded most found : Option Refused) → has_others ≡ has_others_element elements → gap ≡ array_leaves_out gs
    → later ≡ least_of (not_static gs) → repeats ≡ least_of (repeated share early_bounds [] gs) → of_choices ≡ lesser later repeats
    → missing ≡ least_of (refused_if (not has_others && gap) place 403) → unbounded ≡ least_of (refused_if (has_others && not is_bounded) place 410)
    → most ≡ lesser of_choices missing → found ≡ lesser most unbounded
    → found ≡ least_of (array_broken e is_bounded place elements gs)
refused_of_choices e is_bounded place elements gs has_others gap later repeats of_choices missing unbounded most found others_is gap_is later_is repeats_is of_is missing_is unbounded_is most_is found_is =
    let first = not_static gs in
    let second = repeated share early_bounds [] gs in
    let third : Bool → Bool → List Refused = λ h g. refused_if (not h && g) place 403 in
    let fourth : Bool → List Refused = λ h. refused_if (h && not is_bounded) place 410 in
    found_is ∙ ap (λ o. lesser o unbounded) (most_is ∙ ap (λ o. lesser o missing) (of_is ∙ ap (λ o. lesser o repeats) later_is ∙ ap (lesser (least_of first)) repeats_is))
    ∙ ap (λ o. lesser (lesser (lesser (least_of first) (least_of second)) o) unbounded) missing_is
    ∙ ap (lesser (lesser (lesser (least_of first) (least_of second)) (least_of (third has_others gap)))) unbounded_is
    ∙ ap (λ o. lesser (lesser o (least_of (third has_others gap))) (least_of (fourth has_others))) (sym (least_of_append first second))
    ∙ ap (λ o. lesser o (least_of (fourth has_others))) (sym (least_of_append (first ++ second) (third has_others gap)))
    ∙ sym (least_of_append (first ++ second ++ third has_others gap) (fourth has_others))
    ∙ ap (λ h. least_of (first ++ second ++ third h gap ++ fourth h)) others_is
    ∙ ap (λ g. least_of (first ++ second ++ third (has_others_element elements) g ++ fourth (has_others_element elements))) gap_is

-- ---- the choices of an element

pub association_choices : {E : Type 0} (f : Form) (d : Design) (e : Env) (parts inner : Forest Resolved) (r : Result (Vec Choice Global) E) → f ≡ form.Association
    → inner ≡ parts_of parts → IfOk r (λ xs. AreChoices xs.items (choices_given d e inner)) → IfOk r (λ xs. AreChoices xs.items (choices_of_association f d e parts))
association_choices f d e parts inner (Ok xs) is same are =
    subst (λ g. AreChoices xs.items (choices_of_association g d e parts)) (sym is) (subst (λ i. AreChoices xs.items (choices_given d e i)) same are)
association_choices f d e parts inner (Err h) is same are = tt
