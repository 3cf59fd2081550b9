-- What is done with a tree in front of its parts: it is kept by itself, or its parts are walked with the steps of its row.
use Rattle.std.proofs.Common.{◌≡◌, ◌⊎◌, inl, ℕ, Bool, true, ◌&&◌, ◌||◌, not, List, ◌∷◌, refl, sym, ap, ◌∙◌, subst}
use Rattle.std.specs.List.{list_all}
use Rattle.std.proofs.lemmas.Bool.{and_parts}
use Rattle.vd_bytes.specs.declared.places.Place.{Place}
use Rattle.vd_forest.specs.Forest.{Forest, nothing, more}
use Rattle.vd_forms.specs.declared.form.Form.{Form}
use Rattle.vd_forms.specs.declared.form.Form.TheVariants as form
use Rattle.vd_forms.specs.Forms.{is_among, same_form, expressions}
use Rattle.vd_forms.specs.Validity.{AreValid}
use Rattle.vd_trees.specs.declared.revision.Revision.{Revision}
use Rattle.vd_resolved.specs.Trees.{syntax_of}
use Rattle.vd_walks.specs.Walking.{Done, Inside}
use Rattle.vd_name_rows.specs.Designs.{At, Design, Outcome}
use Rattle.vd_name_rows.specs.Rows.{row_of, class_of}
use Rattle.vd_name_rows.specs.declared.steps.Want.TheVariants as want
use Rattle.vd_name_rows.specs.declared.steps.Opening.{Opening}
use Rattle.vd_name_rows.specs.declared.steps.Opening.TheVariants as opening
use Rattle.vd_name_rows.specs.declared.steps.Step.{Step}
use Rattle.vd_name_rows.specs.declared.steps.Step.TheVariants as step
use Rattle.vd_naming.specs.Endings.{form_of_next}
use Rattle.vd_naming.specs.Expressions.{expression}
use Rattle.vd_naming.specs.Openings.{opens, nested, opened_as}
use Rattle.vd_naming.specs.Statements.{alone}
use Rattle.vd_naming.specs.Naming.{Kept, Entered, looked, within, index_of_array, done}
use Rattle.vd_naming_laws.specs.Keeping.{IsImplied, is_condition}
use Rattle.vd_naming_laws.proofs.Fitting.{leaves, among_within, leaf_alone}
use Rattle.vd_naming_laws.proofs.Expressions.{if_both, condition_expression_keeps}
use Rattle.vd_naming_laws.proofs.Steps.{IsBehind, IsKept, behind_same, skipped_kept, word_kept, simple_name_kept, names_kept, surplus_kept, mark_kept, view_name_kept, instance_entity_kept, generic_package_kept, generic_function_kept, use_name_kept, context_name_kept, element_names_kept, result_kept, expression_kept, array_index_kept, parameter_kept, target_kept, selector_kept, index_mark_kept, label_kept, library_word_kept, entity_word_kept, label_name_kept, converse_kept, instance_architecture_kept}
use Rattle.vd_naming_laws.proofs.Generics.{generic_map_kept}
use Rattle.vd_naming_laws.proofs.Ports.{port_map_kept}
use Rattle.vd_naming_laws.proofs.Rows.{makes_leaf, suits_leaf, suits_condition, suits}

-- what a tree comes to is the same, or an operator is implied over it
pub record IsDone (r : Revision) (s : Step) (at : At) (f : Form) (text : List ℕ) (place : Place) (parts : Forest Form) (o : Outcome) : Type 0 where
  pub tree_is : (syntax_of o.tree ≡ more f text place parts nothing) ⊎ IsImplied r s f text place parts (syntax_of o.tree)
  pub behind : IsBehind at o

-- its parts are walked with the steps of its row, and what was known in front of it is kept
pub record IsInside (at : At) (f : Form) (inside : At) (k : Kept) : Type 0 where
  pub revision : inside.revision ≡ at.revision
  pub steps : inside.steps ≡ (row_of f).steps
  pub rest : inside.rest ≡ (row_of f).rest
  pub outer : k.outer ≡ at

abbrev pub IsEntered : Revision → Step → At → Form → List ℕ → Place → Forest Form → Entered → Type 0
IsEntered r s at f text place parts (Done o) = IsDone r s at f text place parts o
IsEntered r s at f text place parts (Inside inside d k) = IsInside at f inside k

-- ---- openings change no revision

opened_revision : (o : Opening) (at : At) (d : Design) (place : Place) (parts : Forest Form) → (opened_as o at d place parts).at.revision ≡ at.revision
opened_revision opening.OfType at d place parts =
    if_both (λ x. x.at.revision ≡ at.revision) (same_form (form_of_next parts) form.RecordType) (nested at d) (opens at d) refl refl
opened_revision _ at d place parts = refl

module _ (r : Revision) (at : At) (d : Design) (f : Form) (text : List ℕ) (place : Place) (parts : Forest Form) where
  pub is_done : {s : Step} {o : Outcome} → IsKept at (more f text place parts nothing) o → IsDone r s at f text place parts o
  is_done x = record { tree_is = inl x.tree_is; behind = x.behind }

  -- a leaf has no parts
  leaf_done : {s : Step} {o : Outcome} → parts ≡ nothing → IsKept at (more f text place nothing nothing) o → IsDone r s at f text place parts o
  leaf_done none x = record { tree_is = inl (x.tree_is ∙ ap (λ p. more f text place p nothing) (sym none)); behind = x.behind }

  looked_enters : (s t : Step) → IsEntered r s at f text place parts (looked t f place parts at d)
  looked_enters s t = record { revision = opened_revision (row_of f).opening at d place parts; steps = refl; rest = refl; outer = refl }

  within_enters : (s : Step) → IsEntered r s at f text place parts (within f at d)
  within_enters s = record { revision = refl; steps = refl; rest = refl; outer = refl }

index_enters : (r : Revision) (keep : Bool) (at : At) (d : Design) (f : Form) (text : List ℕ) (place : Place) (parts : Forest Form)
    → AreValid r keep (more f text place parts nothing) → IsEntered r step.ArrayIndex at f text place parts (index_of_array f text place parts at d)
index_enters r keep at d form.UnconstrainedIndex text place parts v = looked_enters r at d form.UnconstrainedIndex text place parts step.ArrayIndex step.ArrayIndex
index_enters r keep at d f text place parts v = is_done r at d f text place parts (array_index_kept at d f text place parts r keep v)

-- ---- what a slot tells of a step's tree

pub leaf_of : (s : Step) (gs : List Form) (f : Form) → makes_leaf s ≡ true → suits s gs ≡ true → is_among gs f ≡ true → is_among leaves f ≡ true
leaf_of s gs f makes h among =
    among_within leaves gs f
    (subst (λ b. (not b || list_all (is_among leaves) gs) ≡ true) makes (and_parts (suits_leaf s gs) (suits_condition s gs) h).0) among

pub condition_of : (s : Step) (gs : List Form) → is_condition s ≡ true → suits s gs ≡ true
    → (list_all (is_among (form.Absent ∷ expressions)) gs && is_among gs form.Condition) ≡ true
condition_of s gs is h =
    subst (λ b. (not b || (list_all (is_among (form.Absent ∷ expressions)) gs && is_among gs form.Condition)) ≡ true) is
    (and_parts (suits_leaf s gs) (suits_condition s gs) h).1

-- ---- all steps

module _ (r : Revision) (keep : Bool) (whole : Forest Form) (at : At) (d : Design) (f : Form) (text : List ℕ) (place : Place) (parts : Forest Form)
    (revision : at.revision ≡ r) (v : AreValid r keep (more f text place parts nothing)) (gs : List Form) (among : is_among gs f ≡ true) where
  abbrev Enters : Step → Type 0
  Enters s = IsEntered r s at f text place parts (done whole s f text place parts at d)

  keeping : {s : Step} {o : Outcome} → IsKept at (more f text place parts nothing) o → IsDone r s at f text place parts o
  keeping x = is_done r at d f text place parts x

  making_leaf : (s : Step) → makes_leaf s ≡ true → suits s gs ≡ true → {o : Outcome} → IsKept at (more f text place nothing nothing) o
      → IsDone r s at f text place parts o
  making_leaf s makes h x = leaf_done r at d f text place parts (leaf_alone r keep f text place parts nothing (leaf_of s gs f makes h among) v) x

  looking : (s : Step) → IsEntered r s at f text place parts (looked s f place parts at d)
  looking s = looked_enters r at d f text place parts s s

  choosing : Enters step.Chosen
  choosing =
      if_both (IsEntered r step.Chosen at f text place parts) (is_among expressions f) (Done (expression want.AtHand at d (alone f text place parts)))
      (looked step.Chosen f place parts at d) (keeping (expression_kept at d f text place parts r keep v want.AtHand refl)) (looking step.Chosen)

  -- a condition is an expression, or missing
  is_condition_tree : suits (step.Expression want.Condition) gs ≡ true → is_among (form.Absent ∷ expressions) f ≡ true
  is_condition_tree h =
      among_within (form.Absent ∷ expressions) gs f
      (and_parts (list_all (is_among (form.Absent ∷ expressions)) gs) (is_among gs form.Condition) (condition_of (step.Expression want.Condition) gs refl h)).0 among

  conditioned : suits (step.Expression want.Condition) gs ≡ true → Enters (step.Expression want.Condition)
  conditioned h =
      let x = condition_expression_keeps at d r keep revision f text place parts (is_condition_tree h) v in
      record { tree_is = x.tree_is; behind = behind_same at (expression want.Condition at d (alone f text place parts)) x.at_is }

  pub done_enters : (s : Step) → suits s gs ≡ true → Enters s
  done_enters step.Skip h = keeping (skipped_kept at d f text place parts)
  done_enters step.Look h = looking step.Look
  done_enters step.Within h = within_enters r at d f text place parts step.Within
  done_enters (step.Expression want.Condition) h = conditioned h
  done_enters (step.Expression w) h = keeping (expression_kept at d f text place parts r keep v w refl)
  done_enters step.Chosen h = choosing
  done_enters step.Surplus h = keeping (surplus_kept at d f text place parts)
  done_enters step.Word h = keeping (word_kept at d f text place parts)
  done_enters step.SimpleName h = keeping (simple_name_kept at d f text place parts)
  done_enters step.Names h = keeping (names_kept at d f text place parts)
  done_enters step.Label h = making_leaf step.Label refl h (label_kept at d f text place)
  done_enters step.LabelName h = making_leaf step.LabelName refl h (label_name_kept at d f text place)
  done_enters step.Mark h = keeping (mark_kept at d f text place parts)
  done_enters step.Result h = keeping (result_kept at d f text place parts)
  done_enters step.IndexMark h = keeping (index_mark_kept at d f text place parts)
  done_enters step.Target h = keeping (target_kept at d f text place parts)
  done_enters step.Selector h = keeping (selector_kept at d f text place parts)
  done_enters (step.Parameter object) h = keeping (parameter_kept at d f text place parts r keep v (class_of object))
  done_enters step.LibraryWord h = making_leaf step.LibraryWord refl h (library_word_kept at d f text place)
  done_enters step.UseName h = keeping (use_name_kept at d f text place parts)
  done_enters step.ContextName h = keeping (context_name_kept at d f text place parts)
  done_enters step.EntityWord h = making_leaf step.EntityWord refl h (entity_word_kept at d f text place)
  done_enters step.ArrayIndex h = index_enters r keep at d f text place parts v
  done_enters step.ViewName h = keeping (view_name_kept at d f text place parts)
  done_enters step.Converse h = making_leaf step.Converse refl h (converse_kept at d f text place)
  done_enters step.ViewSubtype h = looking step.ViewSubtype
  done_enters step.ElementNames h = keeping (element_names_kept at d f text place parts)
  done_enters step.GenericPackage h = keeping (generic_package_kept at d f text place parts)
  done_enters step.GenericFunctionName h = keeping (generic_function_kept at d f text place parts)
  done_enters step.InstanceEntity h = keeping (instance_entity_kept at d f text place parts)
  done_enters step.InstanceArchitecture h = making_leaf step.InstanceArchitecture refl h (instance_architecture_kept at d whole f text place)
  done_enters step.Generics h = keeping (generic_map_kept at d r keep f text place parts v)
  done_enters step.Ports h = keeping (port_map_kept at d r keep f text place parts v)
