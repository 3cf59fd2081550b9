-- Choices of scalar selectors.
use Rattle.std.proofs.Common.{◌≡◌, ◌++◌, Bool, List, Option, [], ap, false, map, not, sym, true, ◌&&◌, ◌∙◌}
use Rattle.std.specs.List.{list_all}
use Rattle.std.specs.Prelude.{is_some}
use Rattle.vd_bytes.specs.declared.answers.Refused.{Refused}
use Rattle.vd_choice_rules.specs.SelectingStatements.{IsSelecting}
use Rattle.vd_choice_rules.specs.declared.selecting_statements.Selecting.{Selecting}
use Rattle.vd_composites.specs.declared.ranges.Bounds.{Bounds}
use Rattle.vd_environments.specs.Environments.{Env}
use Rattle.vd_given_choices.proofs.RefusalLemmas.{bounds_found, same_left_out}
use Rattle.vd_given_choices.specs.Choices.{AreChoices}
use Rattle.vd_given_choices.specs.Refusals.{bounds_in, those_known}
use Rattle.vd_given_choices.specs.declared.choices.Choice.{Choice}
use Rattle.vd_walks.proofs.LeastLaws.{least_of_append}
use Rattle.vd_walks.specs.Least.{least_of, lesser}
use Rattle.vd_meaning.specs.Facets.{ByEquality}
use Rattle.vd_value_rules.specs.Choices.{Given, are_covered, early_bounds, given_twice, leave_out, left_out, repeated, scalar_choices, scalars_leave_out, share, taken_by}
use Rattle.vd_value_rules.specs.Choices as rules
use Rattle.vd_value_rules.specs.Judging.{refused_if}

module _ (xs : List Choice) (gs : List Given) (are : AreChoices xs gs) (taken : Bounds) where
  out : leave_out (map early_bounds gs) (are_covered taken) ≡ (list_all (λ x. is_some (bounds_in x)) xs && not (are_covered taken (those_known bounds_in xs)))
  out = same_left_out bounds_in early_bounds bounds_found (are_covered taken) xs gs are

  pub not_all_known : (all : Bool) → all ≡ list_all (λ x. is_some (bounds_in x)) xs → all ≡ false → false ≡ leave_out (map early_bounds gs) (are_covered taken)
  not_all_known all is none = sym (out ∙ ap (λ b. b && not (are_covered taken (those_known bounds_in xs))) (sym is ∙ none))

  pub value_left : (all covered : Bool) (bs cs : List Bounds) → all ≡ list_all (λ x. is_some (bounds_in x)) xs → all ≡ true
      → bs ≡ those_known bounds_in xs → cs ≡ bs → covered ≡ are_covered taken cs → not covered ≡ leave_out (map early_bounds gs) (are_covered taken)
  value_left all covered bs cs is known those same covers =
      ap not (covers ∙ ap (are_covered taken) (same ∙ those))
      ∙ sym (out ∙ ap (λ b. b && not (are_covered taken (those_known bounds_in xs))) (sym is ∙ known))

pub scalars_refused : (e : Env) (x : Selecting) (s : rules.Selecting) (gap lacking : Bool) (repeats missing found : Option Refused) → IsSelecting x s → s.comparison ≡ ByEquality
    → gap ≡ leave_out (map early_bounds s.choices) (are_covered x.shape.taken) → repeats ≡ least_of (repeated share early_bounds [] s.choices)
    → lacking ≡ (gap && not x.has_others) → missing ≡ least_of (refused_if lacking x.place 403) → found ≡ lesser missing repeats
    → found ≡ least_of (scalar_choices e s)
scalars_refused e x s gap lacking repeats missing found is equal gap_is repeats_is lacking_is missing_is found_is =
    let twice = repeated share early_bounds [] s.choices in
    let b : lacking ≡ (scalars_leave_out s && not s.has_others) =
    lacking_is ∙ ap (λ g. g && not x.has_others) (gap_is ∙ ap (λ t. leave_out (map early_bounds s.choices) (are_covered t)) (sym is.shape.taken))
    ∙ ap (λ o. scalars_leave_out s && not o) (sym is.others) in
    found_is ∙ ap (λ o. lesser o repeats) (missing_is ∙ ap (λ l. least_of (refused_if l x.place 403)) b)
    ∙ ap (λ p. lesser (least_of (refused_if (scalars_leave_out s && not s.has_others) p 403)) repeats) (sym is.place)
    ∙ ap (lesser (least_of (refused_if (scalars_leave_out s && not s.has_others) s.place 403))) repeats_is
    ∙ sym (least_of_append (refused_if (scalars_leave_out s && not s.has_others) s.place 403) twice)
    ∙ sym (ap (λ c. least_of (left_out c (scalars_leave_out s) s ++ given_twice c e share early_bounds s)) equal)
