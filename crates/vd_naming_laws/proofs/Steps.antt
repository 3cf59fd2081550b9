-- Each step keeps the syntax of its tree, and leaves the steps behind it.
use Rattle.std.proofs.Common.{◌≡◌, ℕ, suc, Bool, false, List, Option, Some, None, refl, ap, ◌∙◌}
use Rattle.vd_bytes.specs.declared.places.Place.{Place}
use Rattle.vd_declarations.specs.declared.classes.Class.{Class}
use Rattle.vd_forest.specs.Forest.{Forest, nothing, more}
use Rattle.vd_forms.specs.declared.form.Form.{Form}
use Rattle.vd_forms.specs.declared.form.Form.TheVariants as form
use Rattle.vd_forms.specs.Validity.{AreValid}
use Rattle.vd_trees.specs.declared.revision.Revision.{Revision}
use Rattle.vd_resolved.specs.Trees.{syntax_of}
use Rattle.vd_resolved.specs.declared.node.Resolved.{Resolved}
use Rattle.vd_declarations.specs.declared.declarations.Declaration.{Declaration}
use Rattle.vd_name_rows.specs.Entering.{numbered}
use Rattle.vd_name_rows.specs.declared.steps.Want as step
use Rattle.vd_name_rows.specs.declared.steps.Want.TheVariants as want
use Rattle.vd_name_rows.specs.Designs.{At, Design, Outcome, gives}
use Rattle.vd_naming.specs.Selected.{Meant}
use Rattle.vd_naming.specs.Expressions.{unresolved, at_hand, expression, target, selector}
use Rattle.vd_naming.specs.Paths.{mark}
use Rattle.vd_naming.specs.Statements.{alone, word, simple_name, names, label, label_name, parameter, surplus}
use Rattle.vd_naming.specs.Functions.{header_ends, header_ends_as}
use Rattle.vd_naming.specs.Units.{library_as, library_word, use_name, used_as, context_name, referred, entity_word}
use Rattle.vd_naming.specs.Indexes.{array_index, index_mark}
use Rattle.vd_naming.specs.Views.{view_name, converse, names_of_elements, element_names}
use Rattle.vd_naming.specs.Generics.{generic_package, generic_function}
use Rattle.vd_naming.specs.Ports.{instance_entity, instance_architecture}
use Rattle.vd_naming_laws.proofs.Readings.{unresolved_keeps}
use Rattle.vd_overloads.specs.declared.wanted.Wanted.TheVariants as wanted
use Rattle.vd_naming_laws.proofs.Expressions.{IsRead, is_condition_want, read_keeps, read_as_mark_keeps, expression_keeps}

-- the revision and the steps that are left stay
pub record IsBehind (at : At) (o : Outcome) : Type 0 where
  pub revision : o.at.revision ≡ at.revision
  pub steps : o.at.steps ≡ at.steps
  pub rest : o.at.rest ≡ at.rest

-- and the syntax is that of a tree
pub record IsKept (at : At) (tree : Forest Form) (o : Outcome) : Type 0 where
  pub tree_is : syntax_of o.tree ≡ tree
  pub behind : IsBehind at o

pub kept : {at : At} {tree : Forest Form} {o : Outcome} → syntax_of o.tree ≡ tree → o.at.revision ≡ at.revision → o.at.steps ≡ at.steps → o.at.rest ≡ at.rest
    → IsKept at tree o
kept t revision steps rest = record { tree_is = t; behind = record { revision = revision; steps = steps; rest = rest } }

pub behind_same : (at : At) (o : Outcome) → o.at ≡ at → IsBehind at o
behind_same at o e = record { revision = ap (λ a. a.revision) e; steps = ap (λ a. a.steps) e; rest = ap (λ a. a.rest) e }

pub read_kept : (at : At) (tree : Forest Form) (o : Outcome) → IsRead at tree o → IsKept at tree o
read_kept at tree o x = record { tree_is = x.tree_is; behind = behind_same at o x.at_is }

pub hand_kept : (at : At) (tree : Forest Form) (o : Outcome) → IsRead at tree o → IsKept at tree (at_hand o)
hand_kept at tree o x =
    kept x.tree_is (ap (λ a. a.revision) x.at_is) (ap (λ a. a.steps) x.at_is) (ap (λ a. a.rest) x.at_is)

-- ---- numbers at nodes

pub syntax_numbered : (n : ℕ) (t : Forest Resolved) → syntax_of (numbered n t) ≡ syntax_of t
syntax_numbered n nothing = refl
syntax_numbered n (more node text place parts next) = ap (more node.form text place (syntax_of parts)) (syntax_numbered (suc n) next)

-- a node over a tree in which nothing is named
over_unresolved : (f : Form) (text : List ℕ) (place : Place) (parts : Forest Form)
    → more f text place (syntax_of (unresolved parts)) nothing ≡ more f text place parts nothing
over_unresolved f text place parts = ap (λ p. more f text place p nothing) (unresolved_keeps parts)

module _ (at : At) (d : Design) (f : Form) (text : List ℕ) (place : Place) (parts : Forest Form) where
  abbrev Kept : Outcome → Type 0
  Kept o = IsKept at (more f text place parts nothing) o

  -- ---- words and names

  pub skipped_kept : Kept (gives at d (unresolved (alone f text place parts)) None)
  skipped_kept = kept (unresolved_keeps (alone f text place parts)) refl refl refl

  pub word_kept : Kept (word at d f text place parts)
  word_kept = kept (unresolved_keeps (alone f text place parts)) refl refl refl

  pub simple_name_kept : Kept (simple_name at d place (alone f text place parts))
  simple_name_kept = kept (unresolved_keeps (alone f text place parts)) refl refl refl

  pub names_kept : Kept (names at d f text place parts)
  names_kept =
      kept (ap (λ p. more f text place p nothing) (syntax_numbered at.next (unresolved parts)) ∙ over_unresolved f text place parts) refl refl refl

  pub surplus_kept : Kept (surplus at d place (alone f text place parts))
  surplus_kept = kept (unresolved_keeps (alone f text place parts)) refl refl refl

  pub mark_kept : Kept (mark at d place (alone f text place parts))
  mark_kept = kept (over_unresolved f text place parts) refl refl refl

  pub view_name_kept : Kept (view_name at d place (alone f text place parts))
  view_name_kept = kept (over_unresolved f text place parts) refl refl refl

  pub instance_entity_kept : Kept (instance_entity at d place (alone f text place parts))
  instance_entity_kept = kept (over_unresolved f text place parts) refl refl refl

  pub generic_package_kept : Kept (generic_package at d place (alone f text place parts))
  generic_package_kept = kept (over_unresolved f text place parts) refl refl refl

  pub generic_function_kept : Kept (generic_function at d place (alone f text place parts))
  generic_function_kept = kept (over_unresolved f text place parts) refl refl refl

  used_kept : (k : Option ℕ) (m : Meant) → Kept (used_as k m at d place (alone f text place parts))
  used_kept None m = kept (over_unresolved f text place parts) refl refl refl
  used_kept (Some k) m = kept (over_unresolved f text place parts) refl refl refl

  pub use_name_kept : Kept (use_name at d place (alone f text place parts))
  use_name_kept = used_kept _ _

  referred_kept : (k : Option ℕ) (m : Meant) → Kept (referred k m at d place (alone f text place parts))
  referred_kept None m = kept (over_unresolved f text place parts) refl refl refl
  referred_kept (Some k) m = kept (over_unresolved f text place parts) refl refl refl

  pub context_name_kept : Kept (context_name at d place (alone f text place parts))
  context_name_kept = referred_kept _ _

  -- ---- names of elements

  names_of_elements_keep : (t : Option ℕ) (ts : Forest Form) → syntax_of (names_of_elements d t ts) ≡ ts
  names_of_elements_keep t nothing = refl
  names_of_elements_keep t (more g text' place' parts' next) = λ i. more g text' place' (unresolved_keeps parts' i) (names_of_elements_keep t next i)

  pub element_names_kept : Kept (element_names at d f text place parts)
  element_names_kept =
      kept (ap (λ p. more f text place p nothing) (names_of_elements_keep at.viewed parts)) refl refl refl

  -- ---- the end of a header

  header_as_kept : (k : Option ℕ) (new : Declaration) (o : Outcome) → Kept o → Kept (header_ends_as k o.at o.design new o)
  header_as_kept None new o x = kept x.tree_is x.behind.revision x.behind.steps x.behind.rest
  header_as_kept (Some k) new o x = kept x.tree_is x.behind.revision x.behind.steps x.behind.rest

  pub result_kept : Kept (header_ends (mark at d place (alone f text place parts)))
  result_kept = header_as_kept _ _ (mark at d place (alone f text place parts)) mark_kept

  -- ---- expressions

  module _ (r : Revision) (keep : Bool) (v : AreValid r keep (more f text place parts nothing)) where
    pub expression_kept : (w : step.Want) → is_condition_want w ≡ false → Kept (expression w at d (alone f text place parts))
    expression_kept w other = read_kept at (alone f text place parts) (expression w at d (alone f text place parts)) (expression_keeps at d r keep w other f text place parts v)

    pub array_index_kept : Kept (array_index at d (alone f text place parts))
    array_index_kept =
        hand_kept at (alone f text place parts) (expression want.AnyRange at d (alone f text place parts))
        (expression_keeps at d r keep want.AnyRange refl f text place parts v)

    pub parameter_kept : (c : Class) → Kept (parameter c at d (alone f text place parts))
    parameter_kept c =
        let x = array_index_kept in
        kept x.tree_is x.behind.revision x.behind.steps x.behind.rest

  pub target_kept : Kept (target at d (alone f text place parts))
  target_kept = kept ((read_keeps at d wanted.Free refl f text place parts).tree_is) refl refl refl

  pub selector_kept : Kept (selector at d (alone f text place parts))
  selector_kept = kept ((read_keeps at d wanted.Free refl f text place parts).tree_is) refl refl refl

  pub index_mark_kept : Kept (index_mark at d (alone f text place parts))
  index_mark_kept = kept ((read_as_mark_keeps at d f text place parts).tree_is) refl refl refl

-- ---- leaves: their nodes are made anew, without parts

module _ (at : At) (d : Design) (f : Form) (text : List ℕ) (place : Place) where
  abbrev Leaf : Outcome → Type 0
  Leaf o = IsKept at (more f text place nothing nothing) o

  pub label_kept : Leaf (label at d f text place)
  label_kept = kept refl refl refl refl

  library_as_kept : (k : Option ℕ) → Leaf (library_as k at d f text place)
  library_as_kept None = kept refl refl refl refl
  library_as_kept (Some k) = kept refl refl refl refl

  pub library_word_kept : Leaf (library_word at d f text place)
  library_word_kept = library_as_kept _

  pub entity_word_kept : Leaf (entity_word at d f text place)
  entity_word_kept = kept refl refl refl refl

module _ (at : At) (d : Design) where
  pub label_name_kept : (f : Form) (text : List ℕ) (place : Place) → IsKept at (more f text place nothing nothing) (label_name at d f text place)
  label_name_kept form.Absent text place = kept refl refl refl refl
  label_name_kept _ text place = kept refl refl refl refl

  pub converse_kept : (f : Form) (text : List ℕ) (place : Place) → IsKept at (more f text place nothing nothing) (converse at d f text place)
  converse_kept form.Absent text place = kept refl refl refl refl
  converse_kept _ text place = kept refl refl refl refl

  pub instance_architecture_kept : (whole : Forest Form) (f : Form) (text : List ℕ) (place : Place)
      → IsKept at (more f text place nothing nothing) (instance_architecture whole at d f text place)
  instance_architecture_kept whole form.Absent text place = kept refl refl refl refl
  instance_architecture_kept whole _ text place = kept refl refl refl refl
