-- What aggregates break is none of the rules of names.
use Rattle.std.proofs.Common.{◌≡◌, ◌∷◌, ◌++◌, List, [], not, refl, true, false, Bool, None, Option, Some, ℕ, ◌&&◌, if◌then◌else◌, length}
use Rattle.vd_bytes.specs.declared.answers.Refused.{Refused}
use Rattle.vd_bytes.specs.declared.places.Place.{Place}
use Rattle.vd_environments.specs.Environments.{Env}
use Rattle.vd_forest.specs.Forest.{Forest}
use Rattle.vd_forms.specs.declared.form.Form.{Form}
use Rattle.vd_given_choices.proofs.RuleLemmas.{AreOfRules, both_of_rules, firsts_of_rules, not_static_of_rules, one_of_rules, repeated_of_rules}
use Rattle.vd_walks.specs.Least.{least_of}
use Rattle.vd_meaning.specs.Meanings.{meanings}
use Rattle.vd_meaning.specs.Names.{number_or}
use Rattle.vd_resolved.specs.declared.node.Resolved.{Resolved}
use Rattle.vd_value_rules.specs.Groups.{firsts_of}
use Rattle.vd_value_rules.specs.Aggregates.{FieldGiven, aggregate_broken, aggregate_of_form, array_broken, array_leaves_out, broken_aggregate, choices_of_elements, fields_given, fields_repeated, has_others_element, is_given_at, is_record_class, record_broken, record_leaves_out, unless_one}
use Rattle.vd_value_rules.specs.Choices.{Given, early_bounds, not_static, repeated, share}
use Rattle.vd_value_rules.specs.Designs.{Design, class_of}
use Rattle.vd_value_rules.specs.Judging.{refused_if}
use Rattle.vd_value_rules.specs.Standings.{State, is_bounded, is_bounded_object, is_one_element, standing}
use Rattle.vd_forms.specs.declared.form.Form.TheVariants as form

of_array : (e : Env) (b : Bool) (place : Place) (elements : Forest Resolved) (gs : List Given) → AreOfRules (array_broken e b place elements gs)
of_array e b place elements gs =
    let third = refused_if (not (has_others_element elements) && array_leaves_out gs) place 403 in
    both_of_rules (not_static gs ++ repeated share early_bounds [] gs ++ third) (refused_if (has_others_element elements && not b) place 410)
    (both_of_rules (not_static gs ++ repeated share early_bounds [] gs) third
    (both_of_rules (not_static gs) (repeated share early_bounds [] gs) (not_static_of_rules gs) (repeated_of_rules share early_bounds [] gs))
    (one_of_rules (not (has_others_element elements) && array_leaves_out gs) place 403 refl))
    (one_of_rules (has_others_element elements && not b) place 410 refl)

of_fields : (before fs : List FieldGiven) → AreOfRules (fields_repeated before fs)
of_fields before [] = refl
of_fields before (f ∷ fs) =
    both_of_rules (refused_if (is_given_at f.position before) f.place 404) (fields_repeated (before ++ f ∷ []) fs)
    (one_of_rules (is_given_at f.position before) f.place 404 refl) (of_fields (before ++ f ∷ []) fs)

of_record : (d : Design) (count : ℕ) (place : Place) (elements : Forest Resolved) → AreOfRules (record_broken d count place elements)
of_record d count place elements =
    let fs = fields_given d 0 elements in
    let missing = not (has_others_element elements) && record_leaves_out count fs in
    both_of_rules (fields_repeated [] fs) (refused_if missing place 403) (of_fields [] fs) (one_of_rules missing place 403 refl)

of_either : (b : Bool) (rs qs : List Refused) → AreOfRules rs → AreOfRules qs → AreOfRules (if b then rs else qs)
of_either true rs qs one other = one
of_either false rs qs one other = other

of_aggregate : (d : Design) (e : Env) (mark : Option ℕ) (b : Bool) (place : Place) (elements : Forest Resolved) → AreOfRules (aggregate_broken d e mark b place elements)
of_aggregate d e None b place elements = refl
of_aggregate d e (Some mark) b place elements =
    of_either (is_record_class (class_of d mark)) (record_broken d (length (d.table.declared mark).parameters) place elements)
    (array_broken e b place elements (choices_of_elements d e elements)) (of_record d (length (d.table.declared mark).parameters) place elements)
    (of_array e b place elements (choices_of_elements d e elements))

of_brackets : (d : Design) (e : Env) (mark : Option ℕ) (b : Bool) (place : Place) (elements : Forest Resolved)
    → AreOfRules (unless_one d elements (aggregate_broken d e mark b place elements))
of_brackets d e mark b place elements =
    of_either (is_one_element (meanings d.table elements)) [] (aggregate_broken d e mark b place elements) refl (of_aggregate d e mark b place elements)

of_form : (f : Form) (d : Design) (s : State) (n : Resolved) (place : Place) (parts : Forest Resolved) → AreOfRules (aggregate_of_form f d s n place parts)
of_form form.Aggregate d s n place parts = of_brackets d s.known.env n.mark (is_bounded (standing s)) place parts
of_form form.Qualification d s n place parts = of_brackets d s.known.env n.mark (is_bounded_object s.known.env (number_or n.declaration)) place parts
of_form _ d s n place parts = refl

-- so that its first refusal is one of the others
pub firsts_found : (d : Design) (s : State) (n : Resolved) (place : Place) (parts : Forest Resolved) (found : Option Refused)
    → found ≡ least_of (broken_aggregate d s n place parts) → record { of_names = None; of_rules = found } ≡ firsts_of (broken_aggregate d s n place parts)
firsts_found d s n place parts found is = firsts_of_rules (broken_aggregate d s n place parts) found (of_form n.form d s n place parts) is
