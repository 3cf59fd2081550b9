-- What statements with choices break is none of the rules of names.
use Rattle.std.proofs.Common.{◌≡◌, ◌++◌, Bool, List, None, Option, Some, [], false, if◌then◌else◌, not, refl, true, ◌&&◌}
use Rattle.vd_bytes.specs.declared.answers.Refused.{Refused}
use Rattle.vd_bytes.specs.declared.places.Place.{Place}
use Rattle.vd_choice_rules.proofs.TextLemmas.{array_of_rules, matching_of_rules}
use Rattle.vd_environments.specs.Environments.{Env}
use Rattle.vd_forest.specs.Forest.{Forest}
use Rattle.vd_given_choices.proofs.RuleLemmas.{AreOfRules, both_of_rules, firsts_of_rules, not_static_of_rules, one_of_rules, repeated_of_rules}
use Rattle.vd_walks.specs.Least.{least_of}
use Rattle.vd_meaning.specs.Facets.{ByEquality, ByMatching, Comparison}
use Rattle.vd_resolved.specs.declared.node.Resolved.{Resolved}
use Rattle.vd_value_rules.specs.Groups.{firsts_of}
use Rattle.vd_value_rules.specs.Choices.{Selecting, array_choices, broken_by_selecting, broken_choices, choices_broken, early_bounds, given_twice, is_array, left_out, matching, not_static, repeated, scalar_choices, scalars_leave_out, selecting_of, share}
use Rattle.vd_value_rules.specs.Designs.{Design}
use Rattle.vd_value_rules.specs.Judging.{refused_if}
use Rattle.vd_value_rules.specs.Standings.{State}

module _ (e : Env) (x : Selecting) where
  by_comparison : (c : Comparison) (b : Bool) → AreOfRules (left_out c b x ++ given_twice c e share early_bounds x)
  by_comparison (ByMatching of) b =
      let repeats = repeated share early_bounds [] x.choices in
      let matches = matching (ByMatching of) e [] x.choices in
      both_of_rules (refused_if (not x.has_others) x.place 403) (repeats ++ matches) (one_of_rules (not x.has_others) x.place 403 refl)
      (both_of_rules repeats matches (repeated_of_rules share early_bounds [] x.choices) (matching_of_rules (ByMatching of) e [] x.choices))
  by_comparison ByEquality b =
      both_of_rules (refused_if (b && not x.has_others) x.place 403) (repeated share early_bounds [] x.choices) (one_of_rules (b && not x.has_others) x.place 403 refl)
      (repeated_of_rules share early_bounds [] x.choices)

  by_selector : (b : Bool) → AreOfRules (if b then array_choices e x.selector.length x else scalar_choices e x)
  by_selector true = array_of_rules e x.selector.length x
  by_selector false = by_comparison x.comparison (scalars_leave_out x)

  of_choices : AreOfRules (choices_broken e x)
  of_choices =
      let b = is_array x.selector.indicated.subtype in
      both_of_rules (not_static x.choices) (if b then array_choices e x.selector.length x else scalar_choices e x) (not_static_of_rules x.choices) (by_selector b)

of_selecting : (e : Env) (o : Option Selecting) → AreOfRules (broken_by_selecting e o)
of_selecting e None = refl
of_selecting e (Some x) = of_choices e x

-- so that their first refusal is one of the others
pub firsts_found : (d : Design) (s : State) (n : Resolved) (place : Place) (parts : Forest Resolved) (found : Option Refused)
    → found ≡ least_of (broken_choices d s n place parts) → record { of_names = None; of_rules = found } ≡ firsts_of (broken_choices d s n place parts)
firsts_found d s n place parts found is =
    firsts_of_rules (broken_choices d s n place parts) found (of_selecting s.known.env (selecting_of n.form d s place parts)) is
