-- Declarations are only entered behind others.
use Rattle.std.proofs.Common.{◌≡◌, ◌-◌, ◌==◌, ℕ, zero, suc, Bool, true, false, List, [], ◌∷◌, Option, Some, None, refl, sym, ap, subst, if◌then◌else◌}
use Rattle.vd_bytes.specs.declared.places.Place.{Place}
use Rattle.vd_declarations.specs.declared.classes.Class.{Class}
use Rattle.vd_declarations.specs.declared.classes.Class.TheVariants as class
use Rattle.vd_declarations.specs.declared.declarations.Declaration.{Declaration}
use Rattle.vd_forest.specs.Forest.{Forest, nothing, more, parts_of, next_of, text_of}
use Rattle.vd_forms.specs.declared.form.Form.{Form}
use Rattle.vd_forms.specs.declared.form.Form.TheVariants as form
use Rattle.vd_forms.specs.Forms.{is_among, expressions}
use Rattle.vd_regions.specs.Scopes.{Scopes, Clause, with_clause, with_clauses, declaration_at, region_at}
use Rattle.vd_resolved.specs.declared.node.Resolved.{Resolved}
use Rattle.vd_overloads.specs.declared.wanted.Wanted.{Wanted}
use Rattle.vd_overloads.specs.declared.wanted.Wanted.TheVariants as wanted
use Rattle.vd_predefined.specs.declared.numbers.TheConstants.{REGION_OF_LIBRARIES, REGION_OF_WORK}
use Rattle.vd_visible.specs.Sights.{mark_of, class_of as sight_class}
use Rattle.vd_walks.specs.Walking.{Done, Inside, through, walked}
use Rattle.vd_name_rows.proofs.GrowthLemmas.{operators_of_more}
use Rattle.vd_name_rows.specs.declared.steps.Want as steps
use Rattle.vd_name_rows.specs.declared.steps.Want.TheVariants as want
use Rattle.vd_name_rows.specs.declared.steps.Step.{Step}
use Rattle.vd_name_rows.specs.declared.steps.Step.TheVariants as step
use Rattle.vd_name_rows.specs.declared.steps.Opening.{Opening}
use Rattle.vd_name_rows.specs.declared.steps.Opening.TheVariants as opening
use Rattle.vd_name_rows.specs.declared.steps.Ending.{Ending}
use Rattle.vd_name_rows.specs.declared.steps.Ending.TheVariants as ending
use Rattle.vd_name_rows.specs.declared.sorts.Sort.TheVariants as sort
use Rattle.vd_name_rows.specs.Rows.{row_of, class_of}
use Rattle.vd_name_rows.specs.Designs.{At, Design, Outcome, with_note, with_scopes, sight, gives}
use Rattle.vd_name_rows.specs.Entering.{Word, words_in, words_of, declaration_of, entering, entering_as, entering_words}
use Rattle.vd_name_rows.specs.Members.{next_number, declared_in}
use Rattle.vd_name_rows.specs.Noting.{with_span, with_formal, with_loop, with_bounds, with_body, with_bodies, tied_to}
use Rattle.vd_name_rows.specs.declared.notes.Formal.{Formal}
use Rattle.vd_predefined.specs.Operators.{with_operators_of}
use Rattle.vd_naming.specs.Endings.{Ended, declares, finished, or_zero, with_formals, with_formals_of, formal_of, entering_objects, entering_ports, entering_type, entering_definition, form_of_next, closed, record_of, array_class, word_of, has_range, is_narrow}
use Rattle.vd_naming.specs.Expressions.{where_known, wanted_at, with_mark, at_hand, is_absent, expression, unresolved}
use Rattle.vd_naming.specs.Actuals.{Known, outcome_for, constant_outcome, types_given, mark_in}
use Rattle.vd_naming.specs.Associations.{Element, elements}
use Rattle.vd_naming.specs.Functions.{header_ends_as, declaration_of_body, written_function, function_of, function_of_body, header_span, is_tied, with_tied, body_of}
use Rattle.vd_naming.specs.Generics.{in_element, element_outcome, elements_outcome, map_of}
use Rattle.vd_naming.specs.Copies.{Copying, entries_of_copies, some_of, number_behind, number_of_copy, note_of_copy, with_noted_copies, with_copies, scopes_with_copies}
use Rattle.vd_naming.specs.Instances.{package_instance, function_instance, are_settled, copying_at, package_declared, undeclared_package, package_instance_as, with_instance, function_declared, undeclared_function, function_instance_as}
use Rattle.vd_naming.specs.Naming.{Kept, looked_at, left_by, done, ended, naming, step_of, stepped}
use Rattle.vd_naming.specs.Naming as walk
use Rattle.vd_naming.specs.Openings.{Opened, opens, nested, instances_inside, opened_as, opened}
use Rattle.vd_naming.specs.Paths.{one_that, mark, path_meant, prefix_pieces, is_package, is_context}
use Rattle.vd_naming.specs.Ports.{map_of_known, instance_architecture}
use Rattle.vd_naming.specs.Selected.{Meant}
use Rattle.vd_naming.specs.Statements.{alone, label_name}
use Rattle.vd_naming.specs.Units.{library_named, used_name, is_all, last_piece, region_of_architectures, unit_of, entering_unit, package_with, library_as, with_used, used_as, referred, entering_libraries, clauses_again, entering_architecture, with_instances_at_end, has_body_in, instances_in, body_of_package, is_single, unit_named, region_inside}
use Rattle.vd_naming.specs.Views.{of_viewed_record, converse, type_viewed}
use Rattle.vd_naming_laws.proofs.Growth.{Entries, Grows, grows_not, grows_by, grows_both}
use Rattle.vd_naming_laws.proofs.States.{entries}

abbrev pub Appends : Design → Design → Type 0
Appends d e = Grows (entries d) (entries e)

pub same_grows : {es fs : Entries} → fs ≡ es → Grows es fs
same_grows {es} same = subst (Grows es) (sym same) (grows_not es)

and_same : {es fs gs : Entries} → Grows es fs → gs ≡ fs → Grows es gs
and_same {es} g same = subst (Grows es) (sym same) g

if_appends : (d : Design) (c : Bool) (o p : Outcome) → Appends d o.design → Appends d p.design → Appends d (if c then o else p).design
if_appends d true o p x y = x
if_appends d false o p x y = y

-- ---- notes

pub noted_if_same : (c : Bool) (k : ℕ) (d : Design) → entries (with_loop c k d) ≡ entries d
noted_if_same true k d = refl
noted_if_same false k d = refl

bounds_same : (c : Bool) (k : ℕ) (d : Design) → entries (with_bounds c k d) ≡ entries d
bounds_same true k d = refl
bounds_same false k d = refl

bodies_same : (ks : List ℕ) (d : Design) → entries (with_bodies ks d) ≡ entries d
bodies_same [] d = refl
bodies_same (k ∷ ks) d = bodies_same ks (with_body k d)

formals_same : (f : Formal) (k : ℕ) (ws : List Word) (d : Design) → entries (with_formals f k ws d) ≡ entries d
formals_same f k [] d = refl
formals_same f k (w ∷ ws) d = formals_same f (suc k) ws (with_formal k f d)

formals_of_same : (c : Class) (f : Form) (parts : Forest Form) (k : ℕ) (ws : List Word) (d : Design) → entries (with_formals_of c f parts k ws d) ≡ entries d
formals_of_same class.Port f parts k ws d = formals_same (formal_of f parts) k ws d
formals_of_same class.GenericConstant f parts k ws d = formals_same (formal_of f parts) k ws d
formals_of_same _ f parts k ws d = refl

copies_same : (c : Copying) (n left : ℕ) (d : Design) → entries (with_noted_copies c n left d) ≡ entries d
copies_same c n zero d = refl
copies_same c n (suc left) d = copies_same c (suc n) left (with_note (number_of_copy c n) (note_of_copy c d n) d)

-- ---- entering

pub one_appends : (rule region : ℕ) (new : Declaration) (d : Design) → Appends d (entering_as rule region new d).design
one_appends rule region new d = grows_by (entries d) (record { region = region; declaration = new } ∷ [])

words_append : (region : ℕ) (c : Class) (mark : Option ℕ) (ws : List Word) (d : Design) → Appends d (entering_words region c mark ws d).design
words_append region c mark [] d = grows_not (entries d)
words_append region c mark (w ∷ ws) d =
    grows_both (one_appends 304 region (declaration_of c w mark) d) (words_append region c mark ws (entering region (declaration_of c w mark) d).design)

objects_append : (region : ℕ) (c : Class) (f : Form) (parts : Forest Form) (mark : Option ℕ) (ws : List Word) (d : Design)
    → Appends d (entering_objects region c f parts mark ws d).design
objects_append region c f parts mark ws d =
    and_same (words_append region c mark ws d)
    (formals_of_same c f parts (next_number d) ws (entering_words region c mark ws d).design)

ports_append : (region : ℕ) (syntax : Forest Form) (trees : Forest Resolved) (d : Design) → Appends d (entering_ports region syntax trees d).design
ports_append region nothing trees d = grows_not (entries d)
ports_append region (more f text place parts next) nothing d = grows_not (entries d)
ports_append region (more f text place parts next) (more node text' place' parts' next') d =
    grows_both (objects_append region class.Port f parts node.mark (words_in 1 parts) d)
    (ports_append region next next' (entering_objects region class.Port f parts node.mark (words_in 1 parts) d).design)

pub operators_append : (s : Scopes) (region own : ℕ) (c : Class) → Grows s.entered (with_operators_of s region own c).entered
operators_append s region own c = let more = operators_of_more s region own c in record { later = more.later; same = more.same }

type_appends : (region : ℕ) (new : Declaration) (d : Design) → Appends d (entering_type region new d).design
type_appends region new d =
    grows_both (one_appends 304 region new d) (operators_append (entering region new d).design.scopes region (next_number d) new.class)

libraries_append : (region : ℕ) (ks : List ℕ) (d : Design) → Appends d (entering_libraries region ks d).design
libraries_append region [] d = grows_not (entries d)
libraries_append region (k ∷ ks) d =
    grows_both (one_appends 304 region (declaration_at d.scopes k) d) (libraries_append region ks (entering region (declaration_at d.scopes k) d).design)

clauses_same : (region : ℕ) (cs : List Clause) (s : Scopes) → (with_clauses region cs s).entered ≡ s.entered
clauses_same region [] s = refl
clauses_same region (c ∷ cs) s = clauses_same region cs (with_clause s region c)

clauses_append : (region : ℕ) (inside : Option ℕ) (d : Design) → Appends d (clauses_again region inside d)
clauses_append region None d = grows_not (entries d)
clauses_append region (Some context) d =
    let e = (entering_libraries region (declared_in context sort.Any d) d).design in
    and_same (libraries_append region (declared_in context sort.Any d) d)
    (clauses_same region (region_at d.scopes context).uses e.scopes)

copies_append : (c : Copying) (d : Design) → Appends d (with_copies c d)
copies_append c d =
    and_same (grows_by (entries d) (entries_of_copies c c.span.first (some_of c.span.first c.span.end d.scopes.entered)))
    (copies_same c c.span.first (c.span.end - c.span.first) (with_scopes d (scopes_with_copies c d.scopes)))

-- ---- steps

where_design : (w : Option Wanted) (at : At) (d : Design) (t : Forest Form) → (where_known w at d t).design ≡ d
where_design None at d t = refl
where_design (Some w) at d nothing = refl
where_design (Some w) at d (more form.DiscreteSubtype text place parts next) = refl
where_design (Some w) at d (more f text place parts next) = refl

if_design : (d : Design) (c : Bool) (o p : Outcome) → o.design ≡ d → p.design ≡ d → (if c then o else p).design ≡ d
if_design d true o p x y = x
if_design d false o p x y = y

expression_design : (w : steps.Want) (at : At) (d : Design) (t : Forest Form) → (expression w at d t).design ≡ d
expression_design w at d t =
    if_design d (is_absent t) (gives at d (unresolved t) None) (where_known (wanted_at w at d) at d t) refl (where_design (wanted_at w at d) at d t)

constant_design : (at : At) (d : Design) (k : Known) (g : ℕ) (place : Place) (t : Forest Form) → (constant_outcome at d k g place t).design ≡ d
constant_design at d k g place t = where_design (with_mark wanted.OfType (mark_in k (mark_of k.sight g))) at d t

outcome_design : (c : Class) (at : At) (d : Design) (k : Known) (g : ℕ) (place : Place) (t : Forest Form) → (outcome_for c at d k g place t).design ≡ d
outcome_design class.GenericType at d k g place nothing = refl
outcome_design class.GenericType at d k g place (more form.Open text place' parts next) = refl
outcome_design class.GenericType at d k g place (more f text place' parts next) = refl
outcome_design class.GenericFunction at d k g place nothing = refl
outcome_design class.GenericFunction at d k g place (more form.Open text place' parts next) = refl
outcome_design class.GenericFunction at d k g place (more f text place' parts next) = refl
outcome_design _ at d k g place nothing = constant_design at d k g place nothing
outcome_design _ at d k g place (more form.Open text place' parts next) = refl
outcome_design _ at d k g place (more f text place' parts next) = constant_design at d k g place (more f text place' parts next)

in_element_design : (d : Design) (g : ℕ) (f : Form) (place : Place) (parts : Forest Form) (o : Outcome) → o.design ≡ d → (in_element g f place parts o).design ≡ d
in_element_design d g form.Association place parts o e = e
in_element_design d g _ place parts o e = e

element_design : (g : Option ℕ) (at : At) (d : Design) (k : Known) (actual : Forest Form) (f : Form) (text : List ℕ) (place : Place) (parts : Forest Form)
    → (element_outcome g at d k actual f text place parts).design ≡ d
element_design None at d k actual f text place parts = refl
element_design (Some g) at d k actual f text place parts =
    in_element_design d g f place parts (outcome_for (sight_class k.sight g) at d k g place actual) (outcome_design (sight_class k.sight g) at d k g place actual)

elements_design : (at : At) (d : Design) (k : Known) (xs : List Element) (ts : Forest Form) → (elements_outcome at d k xs ts).design ≡ d
elements_design at d k [] ts = refl
elements_design at d k (x ∷ xs) nothing = refl
elements_design at d k (x ∷ xs) (more f text place parts next) = element_design x.generic at d k x.actual f text place parts

map_design : (n : Option ℕ) (at : At) (d : Design) (f : Form) (text : List ℕ) (place : Place) (parts : Forest Form) → (map_of n at d f text place parts).design ≡ d
map_design None at d f text place parts = refl
map_design (Some n) at d f text place parts =
    let generics = (declaration_at d.scopes n).generics in
    let xs = elements d n generics [] parts in
    elements_design at d (record { sight = sight at d; generics = generics; types = types_given at d xs }) xs parts

ports_design : (k : Option ℕ) (at : At) (d : Design) (f : Form) (text : List ℕ) (place : Place) (parts : Forest Form) → (map_of_known k at d f text place parts).design ≡ d
ports_design None at d f text place parts = refl
ports_design (Some k) at d f text place parts = refl

header_appends : (k : Option ℕ) (at : At) (d : Design) (new : Declaration) (o : Outcome) → o.design ≡ d → Appends d (header_ends_as k at d new o).design
header_appends None at d new o e = same_grows (ap entries e)
header_appends (Some k) at d new o e = grows_not (entries d)

with_used_appends : (at : At) (d : Design) (from : Option ℕ) (name : Option (List ℕ)) → Appends d (with_used at d from name)
with_used_appends at d None name = grows_not (entries d)
with_used_appends at d (Some from) name = grows_not (entries d)

used_appends : (k : Option ℕ) (m : Meant) (at : At) (d : Design) (place : Place) (t : Forest Form) → Appends d (used_as k m at d place t).design
used_appends None m at d place t = grows_not (entries d)
used_appends (Some k) m at d place t = with_used_appends at d (declaration_at d.scopes k).inside (used_name (is_all (parts_of t)) (last_piece (parts_of t)))

referred_appends : (k : Option ℕ) (m : Meant) (at : At) (d : Design) (place : Place) (t : Forest Form) → Appends d (referred k m at d place t).design
referred_appends None m at d place t = grows_not (entries d)
referred_appends (Some k) m at d place t = clauses_append at.region (declaration_at d.scopes k).inside d

library_appends : (k : Option ℕ) (at : At) (d : Design) (f : Form) (text : List ℕ) (place : Place) → Appends d (library_as k at d f text place).design
library_appends None at d f text place = grows_not (entries d)
library_appends (Some k) at d f text place = one_appends 304 at.region (declaration_of (class.LibraryName k) (record { name = text; place = place }) None) d

label_name_design : (at : At) (d : Design) (f : Form) (text : List ℕ) (place : Place) → (label_name at d f text place).design ≡ d
label_name_design at d form.Absent text place = refl
label_name_design at d _ text place = refl

converse_design : (at : At) (d : Design) (f : Form) (text : List ℕ) (place : Place) → (converse at d f text place).design ≡ d
converse_design at d form.Absent text place = refl
converse_design at d _ text place = refl

architecture_design : (whole : Forest Form) (at : At) (d : Design) (f : Form) (text : List ℕ) (place : Place) → (instance_architecture whole at d f text place).design ≡ d
architecture_design whole at d form.Absent text place = refl
architecture_design whole at d _ text place = refl

-- ---- what is done in front of the parts of a tree

abbrev pub EntryAppends : Design → walk.Entered → Type 0
EntryAppends d (Done o) = Appends d o.design
EntryAppends d (Inside inside e k) = Appends d e

entry_if : (d : Design) (c : Bool) (x y : walk.Entered) → EntryAppends d x → EntryAppends d y → EntryAppends d (if c then x else y)
entry_if d true x y p q = p
entry_if d false x y p q = q

opened_if : (d : Design) (c : Bool) (o p : Opened) → Appends d o.design → Appends d p.design → Appends d (if c then o else p).design
opened_if d true o p x y = x
opened_if d false o p x y = y

opened_appends : (o : Opening) (at : At) (d : Design) (place : Place) (parts : Forest Form) → Appends d (opened_as o at d place parts).design
opened_appends opening.OfPackageBody at d place parts =
    same_grows (bodies_same (instances_inside (region_inside d (unit_named sort.WrittenPackage (text_of parts) d)) d) d)
opened_appends opening.OfType at d place parts = opened_if d _ (nested at d) (opens at d) (grows_not (entries d)) (grows_not (entries d))
opened_appends _ at d place parts = grows_not (entries d)

module _ (whole : Forest Form) (f : Form) (text : List ℕ) (place : Place) (parts : Forest Form) (at : At) (d : Design) where
  look : Appends d (opened f at d place parts).design
  look = opened_appends (row_of f).opening at d place parts

  same : (o : Outcome) → o.design ≡ d → Appends d o.design
  same o e = same_grows (ap entries e)

  pub done_appends : (s : Step) → EntryAppends d (done whole s f text place parts at d)
  done_appends step.Skip = grows_not (entries d)
  done_appends step.Look = look
  done_appends step.Within = grows_not (entries d)
  done_appends (step.Expression w) = same (expression w at d (alone f text place parts)) (expression_design w at d (alone f text place parts))
  done_appends step.Chosen =
      entry_if d (is_among expressions f) (Done (expression want.AtHand at d (alone f text place parts))) (walk.looked step.Chosen f place parts at d)
      (same (expression want.AtHand at d (alone f text place parts)) (expression_design want.AtHand at d (alone f text place parts))) look
  done_appends step.Surplus = grows_not (entries d)
  done_appends step.Word = grows_not (entries d)
  done_appends step.SimpleName = grows_not (entries d)
  done_appends step.Names = grows_not (entries d)
  done_appends step.Label =
      let new = declaration_of class.Label (record { name = text; place = place }) None in
      and_same (one_appends 304 at.region new d) (noted_if_same at.is_loop (next_number d) (entering at.region new d).design)
  done_appends step.LabelName = same (label_name at d f text place) (label_name_design at d f text place)
  done_appends step.Mark = grows_not (entries d)
  done_appends step.Result =
      let o = mark at d place (alone f text place parts) in
      let new = written_function (record { name = o.at.word; place = o.at.word_place }) o.at.mark o.at.region d in
      header_appends (declaration_of_body o.at d new) o.at d new o refl
  done_appends step.IndexMark = grows_not (entries d)
  done_appends step.Target = grows_not (entries d)
  done_appends step.Selector = grows_not (entries d)
  done_appends (step.Parameter object) =
      grows_both (same (expression want.AnyRange at d (alone f text place parts)) (expression_design want.AnyRange at d (alone f text place parts)))
      (let o = at_hand (expression want.AnyRange at d (alone f text place parts)) in
      one_appends 304 o.at.region (declaration_of (class_of object) (record { name = o.at.word; place = o.at.word_place }) o.at.mark) o.design)
  done_appends step.LibraryWord = library_appends (library_named text) at d f text place
  done_appends step.UseName =
      let m = path_meant (sight at d) (prefix_pieces parts) in
      used_appends (one_that (λ k. is_package (declaration_at d.scopes k).class) m) m at d place (alone f text place parts)
  done_appends step.ContextName =
      let m = path_meant (sight at d) parts in
      referred_appends (one_that (λ k. is_context (declaration_at d.scopes k).class) m) m at d place (alone f text place parts)
  done_appends step.EntityWord = grows_not (entries d)
  done_appends step.ArrayIndex = index f
    where
      index : (g : Form) → EntryAppends d (walk.index_of_array g text place parts at d)
      index form.UnconstrainedIndex = opened_appends (row_of form.UnconstrainedIndex).opening at d place parts
      index g = same (expression want.AnyRange at d (alone g text place parts)) (expression_design want.AnyRange at d (alone g text place parts))
  done_appends step.ViewName = grows_not (entries d)
  done_appends step.Converse = same (converse at d f text place) (converse_design at d f text place)
  done_appends step.ViewSubtype = look
  done_appends step.ElementNames = grows_not (entries d)
  done_appends step.GenericPackage = grows_not (entries d)
  done_appends step.GenericFunctionName = grows_not (entries d)
  done_appends step.InstanceEntity = grows_not (entries d)
  done_appends step.InstanceArchitecture = same (instance_architecture whole at d f text place) (architecture_design whole at d f text place)
  done_appends step.Generics = same (map_of at.named at d f text place parts) (map_design at.named at d f text place parts)
  done_appends step.Ports = same (map_of_known at.named at d f text place parts) (ports_design at.named at d f text place parts)

-- ---- endings

module _ (x : Ended) where
  abbrev d : Design
  d = x.inner.design

  definition_appends : (f : Form) (syntax : Forest Form) (t : Forest Resolved) → Appends d (entering_definition x f syntax t d).design
  definition_appends form.EnumerationType syntax t =
      let one = one_appends 304 x.outer.region (declaration_of class.EnumerationType (word_of x) None) d in
      let e = (entering x.outer.region (declaration_of class.EnumerationType (word_of x) None) d).design in
      let words = words_append x.outer.region class.EnumerationLiteral (Some (next_number d)) (words_of (parts_of syntax)) e in
      let g = (entering_words x.outer.region class.EnumerationLiteral (Some (next_number d)) (words_of (parts_of syntax)) e).design in
      grows_both one (grows_both words (operators_append g.scopes x.outer.region (next_number d) class.EnumerationType))
  definition_appends form.ArrayType syntax t =
      let e = with_bounds (has_range (parts_of syntax)) (next_number d) d in
      grows_both (same_grows (bounds_same (has_range (parts_of syntax)) (next_number d) d)) (type_appends x.outer.region (declaration_of (array_class x t) (word_of x) None) e)
  definition_appends form.RecordType syntax t = type_appends x.outer.region (record_of x (closed x.inside.region d)) (closed x.inside.region d)
  definition_appends _ syntax t = grows_not (entries d)

  tied_same : (c : Class) (k : ℕ) (e : Design) → entries (with_tied x c k e) ≡ entries e
  tied_same c k e = same_if (is_tied x c k)
    where
      same_if : (t : Bool) → entries (if t then tied_to k x.outer.unit e else e) ≡ entries e
      same_if true = refl
      same_if false = refl

  body_appends : (k : Option ℕ) → Appends d (body_of k x).design
  body_appends None =
      let new = function_of_body x in
      let e = (entering x.outer.region new d).design in
      and_same (one_appends 304 x.outer.region new d) (tied_same new.class (next_number d) (with_body (next_number d) (with_span (next_number d) (header_span x) e)))
  body_appends (Some k) = same_grows (tied_same (declaration_at d.scopes k).class k (with_body k d))

  architecture_appends : (inside : Option ℕ) (new : Declaration) → Appends d (entering_architecture inside new d).design
  architecture_appends None new = grows_not (entries d)
  architecture_appends (Some inside) new = one_appends 301 (region_of_architectures inside) new d

  ended_if : (c : Bool) (region : ℕ) (e : Design) → Appends d e → Appends d (if c then e else with_bodies (instances_in region e) e)
  ended_if true region e g = g
  ended_if false region e g = and_same g (bodies_same (instances_in region e) e)

  package_appends : (whole : Forest Form) (e : Design) → Appends d e → Appends d (with_instances_at_end whole x.inner.at.word x.inside.region e)
  package_appends whole e g = ended_if (has_body_in x.inner.at.word whole) x.inside.region e g

  body_of_package_appends : (k : Option ℕ) → Appends d (body_of_package k x).design
  body_of_package_appends None = grows_not (entries d)
  body_of_package_appends (Some k) = grows_not (entries d)

  package_instance_appends : (n : Option ℕ) → Appends d (package_instance_as n x).design
  package_instance_appends None = grows_not (entries d)
  package_instance_appends (Some n) =
      if_appends d (are_settled d x.inner.at.actuals (declaration_at d.scopes n).generics) (package_declared x (copying_at x n)) (undeclared_package x)
      (grows_both (copies_append (copying_at x n) d) (one_appends 301 REGION_OF_WORK (package_instance x (copying_at x n)) (with_copies (copying_at x n) d))) (grows_not (entries d))

  instance_same : (c : Bool) (k : ℕ) (e : Design) → entries (with_instance c k e) ≡ entries e
  instance_same true k e = refl
  instance_same false k e = refl

  function_instance_appends : (n : Option ℕ) → Appends d (function_instance_as n x).design
  function_instance_appends None = grows_not (entries d)
  function_instance_appends (Some n) =
      let c = copying_at x n in
      let e = with_copies c d in
      if_appends d (are_settled d x.inner.at.actuals (declaration_at d.scopes n).generics) (function_declared x c) (undeclared_function x)
      (grows_both (and_same (copies_append c d) (instance_same x.outer.is_package (number_behind c) e))
      (one_appends 304 x.outer.region (function_instance x c) (with_instance x.outer.is_package (number_behind c) e))) (grows_not (entries d))

  pub ended_appends : (whole : Forest Form) (e : Ending) → Appends d (ended whole e x).design
  ended_appends whole ending.Nothing = grows_not (entries d)
  ended_appends whole ending.First = grows_not (entries d)
  ended_appends whole ending.Typed = grows_not (entries d)
  ended_appends whole ending.Indicated = grows_not (entries d)
  ended_appends whole ending.ClauseEnds = grows_not (entries d)
  ended_appends whole (ending.Objects object names) = objects_append x.outer.region (class_of object) x.form x.parts x.inner.at.mark (words_in names x.parts) d
  ended_appends whole ending.AllPorts = ports_append x.outer.region x.parts x.inner.tree d
  ended_appends whole ending.NewType = definition_appends (form_of_next x.parts) (next_of x.parts) (next_of x.inner.tree)
  ended_appends whole ending.NewSubtype = grows_both (same_grows (bounds_same (is_narrow x) (next_number d) d))
      (one_appends 304 x.outer.region (declaration_of (class.Subtype (or_zero x.inner.at.named)) (word_of x) x.inner.at.mark) (with_bounds (is_narrow x) (next_number d) d))
  ended_appends whole ending.NewView = one_appends 304 x.outer.region (declaration_of class.View (word_of x) (type_viewed x)) d
  ended_appends whole ending.NewGenericType = type_appends x.outer.region (declaration_of class.GenericType (word_of x) None) d
  ended_appends whole ending.NewGenericFunction = one_appends 304 x.outer.region (function_of class.GenericFunction (word_of x) x.inner.at.mark x.inside.region d) d
  ended_appends whole ending.NewFunction = one_appends 304 x.outer.region (written_function (word_of x) x.inner.at.mark x.inside.region d) d
  ended_appends whole ending.BodyEnds = body_appends x.inner.at.function
  ended_appends whole ending.NewFunctionInstance = function_instance_appends x.inner.at.named
  ended_appends whole ending.UnitEnds =
      let o = finished x None None x.inner.tree d None in
      if_appends d (x.outer.region == REGION_OF_LIBRARIES) (record o { at = record o.at { unit = suc o.at.unit } }) o (grows_not (entries d)) (grows_not (entries d))
  ended_appends whole ending.NewEntity =
      one_appends 301 REGION_OF_WORK
      (record (unit_of class.Entity x) { parameters = declared_in x.inside.region sort.Port d; generics = declared_in x.inside.region sort.Generic d }) (closed x.inside.region d)
  ended_appends whole ending.NewArchitecture =
      architecture_appends (region_inside d (unit_named sort.Entity (text_of (next_of x.parts)) d)) (declaration_of class.Architecture (word_of x) None)
  ended_appends whole ending.NewPackage =
      let new = package_with (declared_in x.inside.region sort.Generic d) x in
      package_appends whole (entering_unit new (closed x.inside.region d)).design (one_appends 301 REGION_OF_WORK new (closed x.inside.region d))
  ended_appends whole ending.PackageBodyEnds = body_of_package_appends (unit_named sort.WrittenPackage (text_of x.parts) d)
  ended_appends whole ending.NewPackageInstance = package_instance_appends x.inner.at.named
  ended_appends whole ending.NewContext =
      if_appends d (is_single (parts_of x.parts)) (declares x x.inner.tree (entering_unit (unit_of class.Context x) (closed x.inside.region d)))
      (finished x None None x.inner.tree d None) (one_appends 301 REGION_OF_WORK (unit_of class.Context x) (closed x.inside.region d)) (grows_not (entries d))

-- ---- a walk

viewed_design : (f : Form) (place : Place) (at : At) (o : Outcome) → (of_viewed_record f place at o).design ≡ o.design
viewed_design form.Absent place at o = refl
viewed_design _ place at o = refl

pub left_design : (s : Step) (f : Form) (place : Place) (at : At) (o : Outcome) → (left_by s f place at o).design ≡ o.design
left_design step.ViewSubtype f place at o = viewed_design f place at o
left_design _ f place at o = refl

pub leave_appends : (whole : Forest Form) (k : Kept) (f : Form) (text : List ℕ) (place : Place) (parts : Forest Form) (inner : Outcome)
    → Appends inner.design ((naming whole).leave k f text place parts inner).design
leave_appends whole k f text place parts inner =
    let x : Ended = record { form = f; text = text; place = place; parts = parts; outer = k.outer; inside = k.inside; inner = inner } in
    and_same (ended_appends x whole (row_of f).ending)
    (ap entries (left_design k.step f place k.outer (looked_at whole k f text place parts inner)))

through_appends : (whole : Forest Form) (f : Form) (text : List ℕ) (place : Place) (parts : Forest Form) (d : Design) (entry : walk.Entered) → EntryAppends d entry
    → ((inside : At) (e : Design) → Appends e (walked (naming whole) parts inside e).design)
    → Appends d (through (naming whole) f text place parts (walked (naming whole) parts) entry).design
through_appends whole f text place parts d (Done o) g inner = g
through_appends whole f text place parts d (Inside inside e k) g inner =
    grows_both g (grows_both (inner inside e) (leave_appends whole k f text place parts (walked (naming whole) parts inside e)))

pub walk_appends : (whole : Forest Form) (ts : Forest Form) (at : At) (d : Design) → Appends d (walked (naming whole) ts at d).design
walk_appends whole nothing at d = grows_not (entries d)
walk_appends whole (more f text place parts next) at d =
    let entry = done whole (step_of at) f text place parts (stepped at) d in
    let o = through (naming whole) f text place parts (walked (naming whole) parts) entry in
    grows_both
    (through_appends whole f text place parts d entry (done_appends whole f text place parts (stepped at) d (step_of at)) (λ inside e. walk_appends whole parts inside e))
    (walk_appends whole next o.at o.design)
