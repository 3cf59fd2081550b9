-- Aggregates: they give each element once and leave none out, their choices are locally static, and `others` of an array needs bounds from the place.
-- (IEEE 1076, aggregates.)
use Rattle.std.specs.Prelude.{Bool, List, None, Option, Some, [], false, if◌then◌else◌, length, map, not, suc, true, zero, ℕ, ◌&&◌, ◌++◌, ◌==◌, ◌||◌, ◌∷◌}
use Rattle.std.specs.List.{list_any}
use Rattle.vd_bytes.specs.declared.answers.Refused.{Refused}
use Rattle.vd_bytes.specs.declared.places.Place.{Place}
use Rattle.vd_composites.specs.Aggregates.{chosen_bounds}
use Rattle.vd_composites.specs.declared.ranges.Bounds.{Bounds}
use Rattle.vd_declarations.specs.declared.classes.Class.{Class}
use Rattle.vd_environments.specs.Environments.{Env}
use Rattle.vd_forest.specs.Forest.{Forest, more, nothing}
use Rattle.vd_forms.specs.declared.form.Form.{Form}
use Rattle.vd_meaning.specs.Meanings.{meanings}
use Rattle.vd_meaning.specs.Names.{number_or}
use Rattle.vd_resolved.specs.declared.node.Resolved.{Resolved}
use Rattle.vd_value_rules.specs.Choices.{Given, are_covered, choices_given, early_bounds, first_meaning, leave_out, not_static, repeated, share}
use Rattle.vd_value_rules.specs.Designs.{Design, class_of}
use Rattle.vd_value_rules.specs.Judging.{refused_if}
use Rattle.vd_value_rules.specs.Knowledge.{parts_at}
use Rattle.vd_value_rules.specs.Standings.{State, is_bounded, is_bounded_object, is_one_element, standing}
use Rattle.vd_declarations.specs.declared.classes.Class.TheVariants as class
use Rattle.vd_forms.specs.declared.form.Form.TheVariants as form

-- ---- arrays

abbrev pub choices_of_association : Form → Design → Env → Forest Resolved → List Given
choices_of_association form.Association d e parts = choices_given d e (parts_at 0 parts)
choices_of_association _ d e parts = []

-- the choices of all elements, in order
abbrev pub choices_of_elements : Design → Env → Forest Resolved → List Given
choices_of_elements d e nothing = []
choices_of_elements d e (more n text place parts next) = choices_of_association n.form d e parts ++ choices_of_elements d e next

abbrev pub is_others_element : Form → Bool
is_others_element form.OthersAssociation = true
is_others_element _ = false

abbrev pub has_others_element : Forest Resolved → Bool
has_others_element nothing = false
has_others_element (more n text place parts next) = is_others_element n.form || has_others_element next

-- choices without `others` give all from the least to the greatest one
abbrev pub leave_gap : List Bounds → Bool
leave_gap bs = not (are_covered (chosen_bounds false bs) bs)

abbrev pub array_leaves_out : List Given → Bool
array_leaves_out gs = leave_out (map early_bounds gs) (λ bs. not (leave_gap bs))

abbrev pub array_broken : Env → Bool → Place → Forest Resolved → List Given → List Refused
array_broken e is_bounded place elements gs =
    not_static gs ++ repeated share early_bounds [] gs ++ refused_if (not (has_others_element elements) && array_leaves_out gs) place 403
    ++ refused_if (has_others_element elements && not is_bounded) place 410

-- ---- records: by the positions of their elements

-- an element that is given, and where
pub record FieldGiven : Type 0 where
  pub position : ℕ
  pub place : Place

abbrev pub fields_of_choices : Design → Forest Resolved → List FieldGiven
fields_of_choices d nothing = []
fields_of_choices d (more n text place parts next) =
    record { position = (first_meaning d (more n text place parts nothing)).position; place = place } ∷ fields_of_choices d next

-- of an element of the list, where so many positions are in front of it
abbrev pub fields_of_form : Form → Design → ℕ → Place → Forest Resolved → List FieldGiven
fields_of_form form.Association d k place parts = fields_of_choices d (parts_at 0 parts)
fields_of_form form.OthersAssociation d k place parts = []
fields_of_form _ d k place parts = record { position = k; place = place } ∷ []

abbrev pub fields_given : Design → ℕ → Forest Resolved → List FieldGiven
fields_given d k nothing = []
fields_given d k (more n text place parts next) = fields_of_form n.form d k place parts ++ fields_given d (suc k) next

abbrev pub is_given_at : ℕ → List FieldGiven → Bool
is_given_at k fs = list_any (λ f. f.position == k) fs

abbrev pub fields_repeated : List FieldGiven → List FieldGiven → List Refused
fields_repeated before [] = []
fields_repeated before (f ∷ fs) = refused_if (is_given_at f.position before) f.place 404 ++ fields_repeated (before ++ f ∷ []) fs

-- whether one of the first so many elements isn't given
abbrev pub record_leaves_out : ℕ → List FieldGiven → Bool
record_leaves_out zero fs = false
record_leaves_out (suc k) fs = not (is_given_at k fs) || record_leaves_out k fs

abbrev pub record_broken : Design → ℕ → Place → Forest Resolved → List Refused
record_broken d count place elements =
    let fs = fields_given d 0 elements in
    fields_repeated [] fs ++ refused_if (not (has_others_element elements) && record_leaves_out count fs) place 403

-- ---- both

abbrev pub is_record_class : Class → Bool
is_record_class class.RecordType = true
is_record_class _ = false

abbrev pub aggregate_broken : Design → Env → Option ℕ → Bool → Place → Forest Resolved → List Refused
aggregate_broken d e None is_bounded place elements = []
aggregate_broken d e (Some mark) is_bounded place elements =
    if is_record_class (class_of d mark) then record_broken d (length (d.table.declared mark).parameters) place elements
    else array_broken e is_bounded place elements (choices_of_elements d e elements)

-- an expression in brackets, which is no aggregate
abbrev pub unless_one : Design → Forest Resolved → List Refused → List Refused
unless_one d elements broken = if is_one_element (meanings d.table elements) then [] else broken

abbrev pub aggregate_of_form : Form → Design → State → Resolved → Place → Forest Resolved → List Refused
aggregate_of_form form.Aggregate d s n place parts =
    unless_one d parts (aggregate_broken d s.known.env n.mark (is_bounded (standing s)) place parts)
aggregate_of_form form.Qualification d s n place parts =
    unless_one d parts (aggregate_broken d s.known.env n.mark (is_bounded_object s.known.env (number_or n.declaration)) place parts)
aggregate_of_form _ d s n place parts = []

-- 403, 404, 406 and 410 of aggregates
abbrev pub broken_aggregate : Design → State → Resolved → Place → Forest Resolved → List Refused
broken_aggregate d s n place parts = aggregate_of_form n.form d s n place parts
