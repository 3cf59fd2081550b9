-- What is found, where that is the first of the same refusals.
use Rattle.std.proofs.Common.{◌≡◌, Option, [], ap, ◌∙◌, Bool, Some, false, if◌then◌else◌, length, sym, true, ℕ}
use Rattle.std.specs.Prelude.{Err, IfOk, Ok, Result}
use Rattle.vd_bytes.specs.declared.answers.Refused.{Refused}
use Rattle.vd_bytes.specs.declared.places.Place.{Place}
use Rattle.vd_environments.specs.Environments.{Env}
use Rattle.vd_forest.specs.Forest.{Forest}
use Rattle.vd_walks.specs.Least.{least_of}
use Rattle.vd_meaning.specs.Meanings.{meanings}
use Rattle.vd_resolved.specs.declared.node.Resolved.{Resolved}
use Rattle.vd_value_rules.specs.Aggregates.{aggregate_broken, array_broken, choices_of_elements, is_record_class, record_broken, unless_one}
use Rattle.vd_value_rules.specs.Designs.{Design, class_of}
use Rattle.vd_value_rules.specs.Standings.{is_one_element}

pub found_same : {A E : Type 0} (a b : A) (r : Result A E) → a ≡ b → IfOk r (λ x. x ≡ a) → IfOk r (λ x. x ≡ b)
found_same a b (Ok x) same is = is ∙ same
found_same a b (Err e) same is = tt

module _ {E : Type 0} (d : Design) (e : Env) (is_bounded : Bool) (place : Place) (elements : Forest Resolved) (r : Result (Option Refused) E) where
  pub of_records : (mark : Option ℕ) (m count : ℕ) (is_record : Bool) → mark ≡ Some m → is_record ≡ is_record_class (class_of d m) → is_record ≡ true
      → count ≡ length (d.table.declared m).parameters → IfOk r (λ x. x ≡ least_of (record_broken d count place elements))
      → IfOk r (λ x. x ≡ least_of (aggregate_broken d e mark is_bounded place elements))
  of_records mark m count is_record marked is true_is counted found =
      found_same (least_of (record_broken d count place elements)) (least_of (aggregate_broken d e mark is_bounded place elements)) r
      (ap (λ k. least_of (record_broken d k place elements)) counted
      ∙ sym (ap (λ o. least_of (aggregate_broken d e o is_bounded place elements)) marked
      ∙ ap (λ b. least_of (if b then record_broken d (length (d.table.declared m).parameters) place elements
      else array_broken e is_bounded place elements (choices_of_elements d e elements))) (sym is ∙ true_is))) found

  pub of_arrays : (mark : Option ℕ) (m : ℕ) (is_record : Bool) → mark ≡ Some m → is_record ≡ is_record_class (class_of d m) → is_record ≡ false
      → IfOk r (λ x. x ≡ least_of (array_broken e is_bounded place elements (choices_of_elements d e elements)))
      → IfOk r (λ x. x ≡ least_of (aggregate_broken d e mark is_bounded place elements))
  of_arrays mark m is_record marked is false_is found =
      found_same (least_of (array_broken e is_bounded place elements (choices_of_elements d e elements)))
      (least_of (aggregate_broken d e mark is_bounded place elements)) r
      (sym (ap (λ o. least_of (aggregate_broken d e o is_bounded place elements)) marked
      ∙ ap (λ b. least_of (if b then record_broken d (length (d.table.declared m).parameters) place elements
      else array_broken e is_bounded place elements (choices_of_elements d e elements))) (sym is ∙ false_is))) found

  pub of_several : (mark : Option ℕ) (one : Bool) → one ≡ is_one_element (meanings d.table elements) → one ≡ false
      → IfOk r (λ x. x ≡ least_of (aggregate_broken d e mark is_bounded place elements))
      → IfOk r (λ x. x ≡ least_of (unless_one d elements (aggregate_broken d e mark is_bounded place elements)))
  of_several mark one is several found =
      found_same (least_of (aggregate_broken d e mark is_bounded place elements))
      (least_of (unless_one d elements (aggregate_broken d e mark is_bounded place elements))) r
      (sym (ap (λ b. least_of (if b then [] else aggregate_broken d e mark is_bounded place elements)) (sym is ∙ several))) found
