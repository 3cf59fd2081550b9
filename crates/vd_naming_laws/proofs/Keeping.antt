-- The steps that are left stay so behind a tree.
use Rattle.std.proofs.Common.{◌≡◌, ℕ, suc, Bool, true, false, List, [], ◌∷◌, Option, Some, None, refl, ap, ◌∙◌, if◌then◌else◌, ◌==◌}
use Rattle.vd_bytes.specs.declared.places.Place.{Place}
use Rattle.vd_declarations.specs.declared.classes.Class.{Class}
use Rattle.vd_declarations.specs.declared.classes.Class.TheVariants as class
use Rattle.vd_declarations.specs.declared.declarations.Declaration.{Declaration}
use Rattle.vd_forest.specs.Forest.{Forest, nothing, more, parts_of, text_of}
use Rattle.vd_forms.specs.declared.form.Form.{Form}
use Rattle.vd_forms.specs.declared.form.Form.TheVariants as form
use Rattle.vd_forms.specs.Forms.{is_among, expressions}
use Rattle.vd_predefined.specs.declared.numbers.TheConstants.{REGION_OF_LIBRARIES}
use Rattle.vd_regions.specs.Scopes.{declaration_at}
use Rattle.vd_overloads.specs.declared.wanted.Wanted.{Wanted}
use Rattle.vd_overloads.specs.declared.wanted.Wanted.TheVariants as wanted
use Rattle.vd_visible.specs.Sights.{mark_of, class_of as sight_class}
use Rattle.vd_walks.specs.Walking.{Done, Inside}
use Rattle.vd_name_rows.specs.declared.steps.Want as steps
use Rattle.vd_name_rows.specs.declared.steps.Want.TheVariants as want
use Rattle.vd_name_rows.specs.declared.steps.Step.{Step}
use Rattle.vd_name_rows.specs.declared.steps.Step.TheVariants as step
use Rattle.vd_name_rows.specs.declared.steps.Ending.{Ending}
use Rattle.vd_name_rows.specs.declared.steps.Ending.TheVariants as ending
use Rattle.vd_name_rows.specs.declared.sorts.Sort.TheVariants as sort
use Rattle.vd_name_rows.specs.Rows.{row_of}
use Rattle.vd_name_rows.specs.Designs.{At, Design, Outcome, sight, gives}
use Rattle.vd_naming.specs.Endings.{Ended, finished, declares, closed}
use Rattle.vd_naming.specs.Expressions.{where_known, wanted_at, with_mark, is_absent, expression, unresolved}
use Rattle.vd_naming.specs.Actuals.{Known, outcome_for, constant_outcome, types_given, mark_in}
use Rattle.vd_naming.specs.Associations.{Element, elements}
use Rattle.vd_naming.specs.Functions.{header_ends_as, declaration_of_body, written_function, body_of}
use Rattle.vd_naming.specs.Generics.{in_element, element_outcome, elements_outcome, map_of}
use Rattle.vd_naming.specs.Instances.{are_settled, copying_at, package_declared, undeclared_package, package_instance_as, function_declared, undeclared_function, function_instance_as}
use Rattle.vd_naming.specs.Naming.{Entered, looked, looked_at, left_by, done, ended, naming, Kept, index_of_array}
use Rattle.vd_naming.specs.Paths.{one_that, mark, path_meant, prefix_pieces, is_package, is_context}
use Rattle.vd_naming.specs.Ports.{map_of_known, instance_architecture}
use Rattle.vd_naming.specs.Selected.{Meant}
use Rattle.vd_naming.specs.Statements.{alone, label_name}
use Rattle.vd_naming.specs.Units.{library_named, library_as, used_as, referred, unit_of, entering_unit, body_of_package, is_single, unit_named}
use Rattle.vd_naming.specs.Views.{of_viewed_record, converse}

pub record Keeps (at : At) (behind : At) : Type 0 where
  pub steps : behind.steps ≡ at.steps
  pub rest : behind.rest ≡ at.rest

pub kept : {at : At} → Keeps at at
kept = record { steps = refl; rest = refl }

same_at : (at here : At) → here ≡ at → Keeps at here
same_at at here e = record { steps = ap (λ a. At.steps a) e; rest = ap (λ a. At.rest a) e }

keeps_if : (at : At) (c : Bool) (o p : Outcome) → Keeps at o.at → Keeps at p.at → Keeps at (if c then o else p).at
keeps_if at true o p x y = x
keeps_if at false o p x y = y

-- ---- steps

where_at : (w : Option Wanted) (at : At) (d : Design) (t : Forest Form) → (where_known w at d t).at ≡ at
where_at None at d t = refl
where_at (Some w) at d nothing = refl
where_at (Some w) at d (more form.DiscreteSubtype text place parts next) = refl
where_at (Some w) at d (more f text place parts next) = refl

if_at : (at : At) (c : Bool) (o p : Outcome) → o.at ≡ at → p.at ≡ at → (if c then o else p).at ≡ at
if_at at true o p x y = x
if_at at false o p x y = y

expression_at : (w : steps.Want) (at : At) (d : Design) (t : Forest Form) → (expression w at d t).at ≡ at
expression_at w at d t = if_at at (is_absent t) (gives at d (unresolved t) None) (where_known (wanted_at w at d) at d t) refl (where_at (wanted_at w at d) at d t)

constant_at : (at : At) (d : Design) (k : Known) (g : ℕ) (place : Place) (t : Forest Form) → (constant_outcome at d k g place t).at ≡ at
constant_at at d k g place t = where_at (with_mark wanted.OfType (mark_in k (mark_of k.sight g))) at d t

outcome_at : (c : Class) (at : At) (d : Design) (k : Known) (g : ℕ) (place : Place) (t : Forest Form) → (outcome_for c at d k g place t).at ≡ at
outcome_at class.GenericType at d k g place nothing = refl
outcome_at class.GenericType at d k g place (more form.Open text place' parts next) = refl
outcome_at class.GenericType at d k g place (more f text place' parts next) = refl
outcome_at class.GenericFunction at d k g place nothing = refl
outcome_at class.GenericFunction at d k g place (more form.Open text place' parts next) = refl
outcome_at class.GenericFunction at d k g place (more f text place' parts next) = refl
outcome_at _ at d k g place nothing = constant_at at d k g place nothing
outcome_at _ at d k g place (more form.Open text place' parts next) = refl
outcome_at _ at d k g place (more f text place' parts next) = constant_at at d k g place (more f text place' parts next)

in_element_at : (at : At) (g : ℕ) (f : Form) (place : Place) (parts : Forest Form) (o : Outcome) → o.at ≡ at → (in_element g f place parts o).at ≡ at
in_element_at at g form.Association place parts o e = e
in_element_at at g _ place parts o e = e

element_at : (g : Option ℕ) (at : At) (d : Design) (k : Known) (actual : Forest Form) (f : Form) (text : List ℕ) (place : Place) (parts : Forest Form)
    → (element_outcome g at d k actual f text place parts).at ≡ at
element_at None at d k actual f text place parts = refl
element_at (Some g) at d k actual f text place parts =
    in_element_at at g f place parts (outcome_for (sight_class k.sight g) at d k g place actual) (outcome_at (sight_class k.sight g) at d k g place actual)

elements_at : (at : At) (d : Design) (k : Known) (xs : List Element) (ts : Forest Form) → (elements_outcome at d k xs ts).at ≡ at
elements_at at d k [] ts = refl
elements_at at d k (x ∷ xs) nothing = refl
elements_at at d k (x ∷ xs) (more f text place parts next) = element_at x.generic at d k x.actual f text place parts

map_keeps : (n : Option ℕ) (at : At) (d : Design) (f : Form) (text : List ℕ) (place : Place) (parts : Forest Form) → Keeps at (map_of n at d f text place parts).at
map_keeps None at d f text place parts = record { steps = refl; rest = refl }
map_keeps (Some n) at d f text place parts =
    let generics = (declaration_at d.scopes n).generics in
    let xs = elements d n generics [] parts in
    let e = elements_at at d (record { sight = sight at d; generics = generics; types = types_given at d xs }) xs parts in
    record { steps = ap (λ a. At.steps a) e; rest = ap (λ a. At.rest a) e }

ports_keep : (k : Option ℕ) (at : At) (d : Design) (f : Form) (text : List ℕ) (place : Place) (parts : Forest Form) → (map_of_known k at d f text place parts).at ≡ at
ports_keep None at d f text place parts = refl
ports_keep (Some k) at d f text place parts = refl

header_keeps : (k : Option ℕ) (at : At) (d : Design) (new : Declaration) (o : Outcome) → Keeps o.at (header_ends_as k at d new o).at
header_keeps None at d new o = record { steps = refl; rest = refl }
header_keeps (Some k) at d new o = record { steps = refl; rest = refl }

used_at : (k : Option ℕ) (m : Meant) (at : At) (d : Design) (place : Place) (t : Forest Form) → (used_as k m at d place t).at ≡ at
used_at None m at d place t = refl
used_at (Some k) m at d place t = refl

referred_at : (k : Option ℕ) (m : Meant) (at : At) (d : Design) (place : Place) (t : Forest Form) → (referred k m at d place t).at ≡ at
referred_at None m at d place t = refl
referred_at (Some k) m at d place t = refl

library_at : (k : Option ℕ) (at : At) (d : Design) (f : Form) (text : List ℕ) (place : Place) → (library_as k at d f text place).at ≡ at
library_at None at d f text place = refl
library_at (Some k) at d f text place = refl

label_name_at : (at : At) (d : Design) (f : Form) (text : List ℕ) (place : Place) → (label_name at d f text place).at ≡ at
label_name_at at d form.Absent text place = refl
label_name_at at d _ text place = refl

converse_at : (at : At) (d : Design) (f : Form) (text : List ℕ) (place : Place) → (converse at d f text place).at ≡ at
converse_at at d form.Absent text place = refl
converse_at at d _ text place = refl

architecture_at : (whole : Forest Form) (at : At) (d : Design) (f : Form) (text : List ℕ) (place : Place) → (instance_architecture whole at d f text place).at ≡ at
architecture_at whole at d form.Absent text place = refl
architecture_at whole at d _ text place = refl

-- what is inside has the steps of its row, and what was in front is kept
pub record IsInside (at : At) (f : Form) (inside : At) (k : Kept) : Type 0 where
  pub steps : inside.steps ≡ (row_of f).steps
  pub rest : inside.rest ≡ (row_of f).rest
  pub outer : k.outer ≡ at

abbrev pub EntryKeeps : At → Form → Entered → Type 0
EntryKeeps at f (Done o) = Keeps at o.at
EntryKeeps at f (Inside inside e k) = IsInside at f inside k

entry_if : (at : At) (f : Form) (c : Bool) (x y : Entered) → EntryKeeps at f x → EntryKeeps at f y → EntryKeeps at f (if c then x else y)
entry_if at f true x y p q = p
entry_if at f false x y p q = q

module _ (whole : Forest Form) (f : Form) (text : List ℕ) (place : Place) (parts : Forest Form) (at : At) (d : Design) where
  so : (here : At) → here ≡ at → Keeps at here
  so here e = same_at at here e

  pub done_keeps : (s : Step) → EntryKeeps at f (done whole s f text place parts at d)
  done_keeps step.Skip = kept
  done_keeps step.Look = record { steps = refl; rest = refl; outer = refl }
  done_keeps step.Within = record { steps = refl; rest = refl; outer = refl }
  done_keeps (step.Expression w) = so (expression w at d (alone f text place parts)).at (expression_at w at d (alone f text place parts))
  done_keeps step.Chosen =
      entry_if at f (is_among expressions f) (Done (expression want.AtHand at d (alone f text place parts))) (looked step.Chosen f place parts at d)
      (so (expression want.AtHand at d (alone f text place parts)).at (expression_at want.AtHand at d (alone f text place parts))) (record { steps = refl; rest = refl; outer = refl })
  done_keeps step.Surplus = kept
  done_keeps step.Word = record { steps = refl; rest = refl }
  done_keeps step.SimpleName = record { steps = refl; rest = refl }
  done_keeps step.Names = record { steps = refl; rest = refl }
  done_keeps step.Label = record { steps = refl; rest = refl }
  done_keeps step.LabelName = so (label_name at d f text place).at (label_name_at at d f text place)
  done_keeps step.Mark = record { steps = refl; rest = refl }
  done_keeps step.Result =
      let o = mark at d place (alone f text place parts) in
      let new = written_function (record { name = o.at.word; place = o.at.word_place }) o.at.mark o.at.region d in
      let x = header_keeps (declaration_of_body o.at d new) o.at d new o in
      record { steps = x.steps; rest = x.rest }
  done_keeps step.IndexMark = record { steps = refl; rest = refl }
  done_keeps step.Target = record { steps = refl; rest = refl }
  done_keeps step.Selector = record { steps = refl; rest = refl }
  done_keeps (step.Parameter object) =
      let x = so (expression want.AnyRange at d (alone f text place parts)).at (expression_at want.AnyRange at d (alone f text place parts)) in
      record { steps = x.steps; rest = x.rest }
  done_keeps step.LibraryWord = so (library_as (library_named text) at d f text place).at (library_at (library_named text) at d f text place)
  done_keeps step.UseName =
      let m = path_meant (sight at d) (prefix_pieces parts) in
      let k = one_that (λ k. is_package (declaration_at d.scopes k).class) m in
      so (used_as k m at d place (alone f text place parts)).at (used_at k m at d place (alone f text place parts))
  done_keeps step.ContextName =
      let m = path_meant (sight at d) parts in
      let k = one_that (λ k. is_context (declaration_at d.scopes k).class) m in
      so (referred k m at d place (alone f text place parts)).at (referred_at k m at d place (alone f text place parts))
  done_keeps step.EntityWord = record { steps = refl; rest = refl }
  done_keeps step.ArrayIndex = index f
    where
      index : (g : Form) → EntryKeeps at g (index_of_array g text place parts at d)
      index form.UnconstrainedIndex = record { steps = refl; rest = refl; outer = refl }
      index g =
          let x = same_at at (expression want.AnyRange at d (alone g text place parts)).at (expression_at want.AnyRange at d (alone g text place parts)) in
          record { steps = x.steps; rest = x.rest }
  done_keeps step.ViewName = record { steps = refl; rest = refl }
  done_keeps step.Converse = so (converse at d f text place).at (converse_at at d f text place)
  done_keeps step.ViewSubtype = record { steps = refl; rest = refl; outer = refl }
  done_keeps step.ElementNames = record { steps = refl; rest = refl }
  done_keeps step.GenericPackage = record { steps = refl; rest = refl }
  done_keeps step.GenericFunctionName = record { steps = refl; rest = refl }
  done_keeps step.InstanceEntity = record { steps = refl; rest = refl }
  done_keeps step.InstanceArchitecture = so (instance_architecture whole at d f text place).at (architecture_at whole at d f text place)
  done_keeps step.Generics = map_keeps at.named at d f text place parts
  done_keeps step.Ports = so (map_of_known at.named at d f text place parts).at (ports_keep at.named at d f text place parts)

-- ---- endings

module _ (x : Ended) where
  abbrev d : Design
  d = x.inner.design

  abbrev Here : Outcome → Type 0
  Here o = Keeps x.outer o.at

  body_keeps : (k : Option ℕ) → Here (body_of k x)
  body_keeps None = record { steps = refl; rest = refl }
  body_keeps (Some k) = record { steps = refl; rest = refl }

  package_body_keeps : (k : Option ℕ) → Here (body_of_package k x)
  package_body_keeps None = record { steps = refl; rest = refl }
  package_body_keeps (Some k) = record { steps = refl; rest = refl }

  package_keeps : (n : Option ℕ) → Here (package_instance_as n x)
  package_keeps None = record { steps = refl; rest = refl }
  package_keeps (Some n) =
      let y = keeps_if x.outer (are_settled d x.inner.at.actuals (declaration_at d.scopes n).generics) (package_declared x (copying_at x n)) (undeclared_package x)
      (record { steps = refl; rest = refl }) (record { steps = refl; rest = refl }) in
      record { steps = y.steps; rest = y.rest }

  function_keeps : (n : Option ℕ) → Here (function_instance_as n x)
  function_keeps None = record { steps = refl; rest = refl }
  function_keeps (Some n) =
      let y = keeps_if x.outer (are_settled d x.inner.at.actuals (declaration_at d.scopes n).generics) (function_declared x (copying_at x n)) (undeclared_function x)
      (record { steps = refl; rest = refl }) (record { steps = refl; rest = refl }) in
      record { steps = y.steps; rest = y.rest }

  pub ended_keeps : (whole : Forest Form) (e : Ending) → Here (ended whole e x)
  ended_keeps whole ending.BodyEnds = body_keeps x.inner.at.function
  ended_keeps whole ending.NewFunctionInstance = function_keeps x.inner.at.named
  ended_keeps whole ending.UnitEnds =
      let o = finished x None None x.inner.tree d None in
      keeps_if x.outer (x.outer.region == REGION_OF_LIBRARIES) (record o { at = record o.at { unit = suc o.at.unit } }) o (record { steps = refl; rest = refl }) (record { steps = refl; rest = refl })
  ended_keeps whole ending.PackageBodyEnds = package_body_keeps (unit_named sort.WrittenPackage (text_of x.parts) d)
  ended_keeps whole ending.NewPackageInstance = package_keeps x.inner.at.named
  ended_keeps whole ending.NewContext =
      keeps_if x.outer (is_single (parts_of x.parts)) (declares x x.inner.tree (entering_unit (unit_of class.Context x) (closed x.inside.region d)))
      (finished x None None x.inner.tree d None) (record { steps = refl; rest = refl }) (record { steps = refl; rest = refl })
  ended_keeps whole _ = record { steps = refl; rest = refl }

viewed_at : (f : Form) (place : Place) (at : At) (o : Outcome) → (of_viewed_record f place at o).at ≡ o.at
viewed_at form.Absent place at o = refl
viewed_at _ place at o = refl

pub left_at : (s : Step) (f : Form) (place : Place) (at : At) (o : Outcome) → (left_by s f place at o).at ≡ o.at
left_at step.ViewSubtype f place at o = viewed_at f place at o
left_at _ f place at o = refl

viewed_tree : (f : Form) (place : Place) (at : At) (o : Outcome) → (of_viewed_record f place at o).tree ≡ o.tree
viewed_tree form.Absent place at o = refl
viewed_tree _ place at o = refl

pub left_tree : (s : Step) (f : Form) (place : Place) (at : At) (o : Outcome) → (left_by s f place at o).tree ≡ o.tree
left_tree step.ViewSubtype f place at o = viewed_tree f place at o
left_tree _ f place at o = refl

pub leave_keeps : (whole : Forest Form) (k : Kept) (f : Form) (text : List ℕ) (place : Place) (parts : Forest Form) (inner : Outcome)
    → Keeps k.outer ((naming whole).leave k f text place parts inner).at
leave_keeps whole k f text place parts inner =
    let x : Ended = record { form = f; text = text; place = place; parts = parts; outer = k.outer; inside = k.inside; inner = inner } in
    let y = ended_keeps x whole (row_of f).ending in
    let e = left_at k.step f place k.outer (looked_at whole k f text place parts inner) in
    record { steps = ap (λ a. At.steps a) e ∙ y.steps; rest = ap (λ a. At.rest a) e ∙ y.rest }
