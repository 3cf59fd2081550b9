-- What each ending comes to names what is declared.
use Rattle.std.proofs.Common.{◌≡◌, ◌<◌, ◌≤◌, ◌+◌, ℕ, suc, Bool, true, false, List, [], ◌∷◌, length, Option, Some, None, option_map, ◌==◌, refl, sym, ap, ◌∙◌, subst, arith, if◌then◌else◌}
use Rattle.std.specs.List.{AllByRecursion}
use Rattle.vd_bytes.specs.declared.answers.Refused.{Refused}
use Rattle.vd_declarations.specs.Classes.{is_type, types_of}
use Rattle.vd_declarations.specs.declared.classes.Class.{Class}
use Rattle.vd_declarations.specs.declared.classes.Class.TheVariants as class
use Rattle.vd_declarations.specs.declared.declarations.Declaration.{Declaration}
use Rattle.vd_forest.specs.Forest.{Forest, nothing, more, parts_of, next_of, text_of, tree_count}
use Rattle.vd_forms.specs.declared.form.Form.{Form}
use Rattle.vd_forms.specs.declared.form.Form.TheVariants as form
use Rattle.vd_predefined.specs.declared.numbers.TheConstants.{BOOLEAN, REGION_OF_WORK, REGION_OF_LIBRARIES}
use Rattle.vd_resolved.specs.declared.node.Resolved.{Resolved}
use Rattle.vd_resolved.specs.Validity.{OnSome}
use Rattle.vd_regions.specs.Scopes.{declaration_at}
use Rattle.vd_name_rows.specs.declared.notes.Formal.{Formal}
use Rattle.vd_name_rows.specs.declared.steps.Object.{Object}
use Rattle.vd_name_rows.specs.declared.sorts.Sort.TheVariants as sort
use Rattle.vd_name_rows.specs.Rows.{class_of}
use Rattle.vd_name_rows.specs.Designs.{Design, Outcome, note_at, standpoint}
use Rattle.vd_name_rows.specs.Entering.{Word, words_of, words_in, numbered, declaration_of, Entering, entering, entering_as, entering_words}
use Rattle.vd_name_rows.specs.Members.{next_number, declared_in}
use Rattle.vd_name_rows.specs.Noting.{with_body, with_bodies, with_bounds, with_formal, with_span, tied_to}
use Rattle.vd_naming.specs.Endings.{Ended, behind, finished, entered, declares, word_of, formal_of, with_formals, with_formals_of, entering_objects, objects_end, entering_ports, ports_end, entering_type, entering_enumeration, or_zero, array_class, entering_array, record_of, closed, entering_record, entering_definition, literals_numbered, with_literals, form_of_next, type_ends, subtype_ends, has_range, is_narrow, is_form, form_at}
use Rattle.vd_naming.specs.Expressions.{mark_of}
use Rattle.vd_naming.specs.Functions.{function_class, header_generics, function_of, written_function, function_ends, is_tied, with_tied, designator, function_of_body, header_span, entering_body, body_of, with_generic, generic_function_ends, generic_type_ends}
use Rattle.vd_naming.specs.Units.{entering_unit, unit_of, unit_ends, entity_ends, entering_architecture, architecture_ends, with_name, package_class, declared_besides, package_with, with_instances_at_end, instances_in, has_body_in, with_package_span, package_ends, body_of_package, is_single, context_ends, region_inside, unit_named}
use Rattle.vd_naming.specs.Views.{declaration_of_tree, type_viewed, view_ends}
use Rattle.vd_name_rows.specs.Noting.{as_instance}
use Rattle.vd_name_rows.specs.declared.steps.Ending.{Ending}
use Rattle.vd_name_rows.specs.declared.steps.Ending.TheVariants as ending
use Rattle.vd_naming.specs.Copies.{number_behind, numbers_of_copies, type_of_copy, with_copies}
use Rattle.vd_naming.specs.Endings.{typed_ends}
use Rattle.vd_naming.specs.Functions.{clause_ends}
use Rattle.vd_naming.specs.Instances.{are_settled, copying_at, package_instance, package_declared, undeclared_package, package_instance_of, package_instance_as, with_instance, function_instance, function_declared, undeclared_function, function_instance_of, function_instance_as}
use Rattle.vd_naming.specs.Naming.{ended}
use Rattle.vd_naming_laws.proofs.Appending.{same_grows, operators_append}
use Rattle.vd_naming_laws.proofs.Copying.{copies_entered, copies_same, copies_own, some_copy_typed, behind_is_next}
use Rattle.vd_naming_laws.proofs.Lists.{all_filter}
use Rattle.vd_naming_laws.proofs.Growth.{Entries, at as entry_at, Own, Typed, IsFine, Grows, grows_not, grows_both, longer, typed_own, typed_more, typed_some_more, fine_more, same_at, entry_grows, new_at, new_own}
use Rattle.vd_naming_laws.proofs.Operators.{operators_of_more}
use Rattle.vd_naming_laws.proofs.Paths.{members_own, type_is, found_own}
use Rattle.vd_naming_laws.proofs.Expressing.{mark_of_is}
use Rattle.vd_naming_laws.proofs.Entering.{Entered, entered_not, entered_then, NamesNothing, plain_fine, object_names, one_entered, one_longer, words_entered}
use Rattle.vd_naming_laws.proofs.Opening.{body_is, bodies_same, bodies_are}
use Rattle.vd_naming_laws.proofs.States.{Number, number_below, some_below, TreeIs, tree_more, SpanIs, DesignIs, note_is, noted as note_put, AtIs, at_more, entries, Comes, point_sound}

pub below_if : (b : Bool) (n k : ℕ) → (b ≡ true → k < n) → Number b n k
below_if false n k h = tt
below_if true n k h = h refl

-- ---- trees whose nodes get numbers

numbers_put : (b : Bool) (n : ℕ) (es : Entries) (k : ℕ) (t : Forest Resolved) → (b ≡ true → k + tree_count t ≤ n) → TreeIs b n es t → TreeIs b n es (numbered k t)
numbers_put b n es k nothing h is = tt
numbers_put b n es k (more node text place parts next) h is =
    (below_if b n k (λ t. let g = h t in omega (arith, g)), is.1, is.2, numbers_put b n es (suc k) next (λ t. let g = h t in omega (arith, g)) is.3)

name_put : (b : Bool) (n : ℕ) (es : Entries) (k : ℕ) (t : Forest Resolved) → Number b n k → TreeIs b n es t → TreeIs b n es (with_name k t)
name_put b n es k nothing h is = tt
name_put b n es k (more node text place parts next) h is = (h, is.1, is.2, is.3)

-- ---- notes that change nothing of spans

kept_span : (k : ℕ) (d : Design) → DesignIs d → SpanIs k (note_at d k)
kept_span k d is = note_is d k is.spans

bounds_are : (c : Bool) (k : ℕ) (d : Design) → DesignIs d → DesignIs (with_bounds c k d)
bounds_are true k d is = note_put k _ d is (kept_span k d is)
bounds_are false k d is = is

bounds_same : (c : Bool) (k : ℕ) (d : Design) → entries (with_bounds c k d) ≡ entries d
bounds_same true k d = refl
bounds_same false k d = refl

formals_are : (f : Formal) (k : ℕ) (ws : List Word) (d : Design) → DesignIs d → DesignIs (with_formals f k ws d)
formals_are f k [] d is = is
formals_are f k (w ∷ ws) d is = formals_are f (suc k) ws (with_formal k f d) (note_put k _ d is (kept_span k d is))

formals_same : (f : Formal) (k : ℕ) (ws : List Word) (d : Design) → entries (with_formals f k ws d) ≡ entries d
formals_same f k [] d = refl
formals_same f k (w ∷ ws) d = formals_same f (suc k) ws (with_formal k f d)

formals_of_are : (c : Class) (f : Form) (parts : Forest Form) (k : ℕ) (ws : List Word) (d : Design) → DesignIs d → DesignIs (with_formals_of c f parts k ws d)
formals_of_are class.Port f parts k ws d is = formals_are (formal_of f parts) k ws d is
formals_of_are class.GenericConstant f parts k ws d is = formals_are (formal_of f parts) k ws d is
formals_of_are _ f parts k ws d is = is

formals_of_same : (c : Class) (f : Form) (parts : Forest Form) (k : ℕ) (ws : List Word) (d : Design) → entries (with_formals_of c f parts k ws d) ≡ entries d
formals_of_same class.Port f parts k ws d = formals_same (formal_of f parts) k ws d
formals_of_same class.GenericConstant f parts k ws d = formals_same (formal_of f parts) k ws d
formals_of_same _ f parts k ws d = refl

-- a note keeps what was entered
pub renoted : (c d e : Design) → Entered c d → entries e ≡ entries d → DesignIs e → Entered c e
renoted c d e x same is = record { grows = subst (Grows (entries c)) (sym same) x.grows; design = is }

-- ---- objects

objects_entered : (region : ℕ) (c : Class) (f : Form) (parts : Forest Form) (mark : Option ℕ) (ws : List Word) (d : Design) → DesignIs d → NamesNothing c
    → OnSome (Typed (entries d)) mark → Entered d (entering_objects region c f parts mark ws d).design
objects_entered region c f parts mark ws d is none typed =
    let x = words_entered region c mark ws d is none typed in
    let e = (entering_words region c mark ws d).design in
    renoted d e (with_formals_of c f parts (next_number d) ws e) x (formals_of_same c f parts (next_number d) ws e) (formals_of_are c f parts (next_number d) ws e x.design)

ports_entered : (b : Bool) (n : ℕ) (fs : Entries) (region : ℕ) (syntax : Forest Form) (trees : Forest Resolved) (d : Design) → DesignIs d → Grows fs (entries d)
    → TreeIs b n fs trees → Entered d (entering_ports region syntax trees d).design
ports_entered b n fs region nothing trees d is g t = entered_not d is
ports_entered b n fs region (more f text place parts next) nothing d is g t = entered_not d is
ports_entered b n fs region (more f text place parts next) (more node text' place' parts' next') d is g t =
    let one = objects_entered region class.Port f parts node.mark (words_in 1 parts) d is (record { named = refl; types = refl }) (typed_some_more g node.mark t.1) in
    entered_then one
    (ports_entered b n fs region next next' (entering_objects region class.Port f parts node.mark (words_in 1 parts) d).design one.design (grows_both g one.grows) t.3)

-- ---- a node whose parts are resolved

module _ (b : Bool) (x : Ended) (is : DesignIs x.inner.design) (outer : AtIs (entries x.inner.design) x.outer) (inner : AtIs (entries x.inner.design) x.inner.at)
    (tree : (n : ℕ) → length (entries x.inner.design) ≤ n → (b ≡ true → x.inner.at.next ≤ n) → TreeIs b n (entries x.inner.design) x.inner.tree) where
  abbrev d : Design
  d = x.inner.design

  abbrev es : Entries
  es = entries d

  -- what is numbered inside is declared at the end, or goes on behind
  abbrev pub Reach : Outcome → Type 0
  Reach o = b ≡ true → (n : ℕ) → length (entries o.design) ≤ n → o.at.next ≤ n → x.inner.at.next ≤ n

  abbrev Goes : Outcome → Type 0
  Goes o = Comes b d o

  behind_is : (e : Design) → Grows es (entries e) → AtIs (entries e) (behind x.outer x.inner.at)
  behind_is e g =
      let o = at_more g x.outer outer in
      let i = at_more g x.inner.at inner in
      record {
        named = i.named;
        mark = i.mark;
        selector = o.selector;
        result = o.result;
        viewed = o.viewed;
        actuals = o.actuals;
        header_end = o.header_end;
        function = o.function;
      }

  finished_goes : (k t : Option ℕ) (parts : Forest Resolved) (e : Design) (first : Option Refused) → Entered d e → OnSome (Typed (entries e)) t
      → ((n : ℕ) → length (entries e) ≤ n → OnSome (Number b n) k)
      → ((n : ℕ) → length (entries e) ≤ n → (b ≡ true → x.outer.next ≤ n) → TreeIs b n (entries e) parts) → Goes (finished x k t parts e first)
  finished_goes k t parts e first y typed number parts_are = record {
    grows = y.grows;
    design = y.design;
    at = behind_is e y.grows;
    tree = λ n h next. (number n h, typed, parts_are n h next, tt);
  }

  inner_tree : (e : Design) → Grows es (entries e) → (b ≡ true → (n : ℕ) → length (entries e) ≤ n → x.outer.next ≤ n → x.inner.at.next ≤ n)
      → (n : ℕ) → length (entries e) ≤ n → (b ≡ true → x.outer.next ≤ n) → TreeIs b n (entries e) x.inner.tree
  inner_tree e g reach n h next = tree_more b n n g (omega arith) x.inner.tree (tree n (omega (arith, h, longer g)) (λ t. reach t n h (next t)))

  abbrev ReachIn : Design → Type 0
  ReachIn e = b ≡ true → (n : ℕ) → length (entries e) ≤ n → x.outer.next ≤ n → x.inner.at.next ≤ n

  pub plainly : ReachIn d → Goes (finished x None None x.inner.tree d None)
  plainly reach = finished_goes None None x.inner.tree d None (entered_not d is) tt (λ n h. tt) (inner_tree d (grows_not es) reach)

  -- what is entered, without a number at the node
  without_number : (e : Entering) → Entered d e.design → ReachIn e.design → Goes (entered x None x.inner.tree e)
  without_number e y reach = finished_goes None None x.inner.tree e.design e.first y tt (λ n h. tt) (inner_tree e.design y.grows reach)

  with_number : (k : ℕ) (e : Entering) → Entered d e.design → (b ≡ true → k < length (entries e.design)) → ReachIn e.design
      → Goes (entered x (Some k) x.inner.tree e)
  with_number k e y own reach =
      finished_goes (Some k) None x.inner.tree e.design e.first y tt (λ n h. below_if b n k (λ t. let g = own t in omega (arith, g, h))) (inner_tree e.design y.grows reach)

  -- ---- objects

  objects_go : (o : Object) (names : ℕ) → ReachIn (entering_objects x.outer.region (class_of o) x.form x.parts x.inner.at.mark (words_in names x.parts) d).design
      → Goes (objects_end (class_of o) names x)
  objects_go o names reach =
      without_number (entering_objects x.outer.region (class_of o) x.form x.parts x.inner.at.mark (words_in names x.parts) d)
      (objects_entered x.outer.region (class_of o) x.form x.parts x.inner.at.mark (words_in names x.parts) d is (object_names o) inner.mark) reach

  ports_go : ReachIn (entering_ports x.outer.region x.parts x.inner.tree d).design → Goes (ports_end x)
  ports_go reach =
      without_number (entering_ports x.outer.region x.parts x.inner.tree d)
      (ports_entered b (length es + x.inner.at.next) es x.outer.region x.parts x.inner.tree d is (grows_not es) (tree (length es + x.inner.at.next) (omega arith) (λ t. omega arith))) reach

  -- ---- one declaration, whose number is at the node

  one_goes : (rule region : ℕ) (new : Declaration) (first : Option Refused) → IsFine es new → ReachIn (entering_as rule region new d).design
      → Goes (declares x x.inner.tree (record { design = (entering_as rule region new d).design; first = first }))
  one_goes rule region new first fine reach =
      with_number (next_number d) (record { design = (entering_as rule region new d).design; first = first }) (one_entered rule region new d is fine)
      (λ t. let long = one_longer rule region new d in omega (arith, long)) reach

  function_names : (generics : List ℕ) → NamesNothing (function_class generics)
  function_names [] = record { named = refl; types = refl }
  function_names (k ∷ ks) = record { named = refl; types = refl }

  function_fine : (c : Class) (w : Word) (mark : Option ℕ) (region : ℕ) → NamesNothing c → OnSome (Typed es) mark → IsFine es (function_of c w mark region d)
  function_fine c w mark region none typed = record {
    mark = typed;
    parameters = members_own region sort.Parameter d;
    generics = members_own region sort.Generic d;
    named = subst (AllByRecursion (Own es)) (sym none.named) tt;
    types = subst (AllByRecursion (Typed es)) (sym none.types) tt;
  }

  -- ---- an outcome with another refusal, another design of the same declarations, or another place

  refused_goes : (o : Outcome) (first : Option Refused) → Goes o → Goes (record o { first = first })
  refused_goes o first y = record { grows = y.grows; design = y.design; at = y.at; tree = y.tree }

  renoted_goes : (o : Outcome) (e : Design) → entries e ≡ entries o.design → DesignIs e → Goes o → Goes (record o { design = e })
  renoted_goes o e same e_is y = record {
    grows = subst (Grows es) (sym same) y.grows;
    design = e_is;
    at = subst (λ fs. AtIs fs o.at) (sym same) y.at;
    tree = subst (λ fs. (n : ℕ) → length fs ≤ n → (b ≡ true → o.at.next ≤ n) → TreeIs b n fs o.tree) (sym same) y.tree;
  }

  -- ---- types

  zero_own : Own es 0
  zero_own = let t = typed_own es BOOLEAN is.sound.boolean in omega (arith, t)

  or_zero_own : (k : Option ℕ) → OnSome (Own es) k → Own es (or_zero k)
  or_zero_own None own = zero_own
  or_zero_own (Some k) own = own

  typed_back : {fs : Entries} → Grows es fs → (k : ℕ) → Own es k → Typed fs k → Typed es k
  typed_back g k own typed = ap (λ c. is_type c.class) (sym (same_at g k own)) ∙ typed

  or_zero_typed : {fs : Entries} → Grows es fs → (t : Option ℕ) → OnSome (Typed es) t → Typed fs (or_zero t) → Typed es (or_zero t)
  or_zero_typed g None is_typed typed = typed_back g 0 zero_own typed
  or_zero_typed g (Some t) is_typed typed = is_typed

  -- each type that an array type of the whole design names is one
  abbrev pub ArraysAre : Entries → Type 0
  ArraysAre fs = (k : ℕ) → AllByRecursion (Typed fs) (types_of (entry_at fs k).class)

  some_tree : TreeIs b (length es + x.inner.at.next) es x.inner.tree
  some_tree = tree (length es + x.inner.at.next) (omega arith) (λ t. omega arith)

  next_is : (n : ℕ) (t : Forest Resolved) → TreeIs b n es t → TreeIs b n es (next_of t)
  next_is n nothing t_is = tt
  next_is n (more node text place parts next) t_is = t_is.3

  parts_are : (n : ℕ) (t : Forest Resolved) → TreeIs b n es t → TreeIs b n es (parts_of t)
  parts_are n nothing t_is = tt
  parts_are n (more node text place parts next) t_is = t_is.2

  index_is : OnSome (Typed es) (mark_of (parts_of (next_of x.inner.tree)))
  index_is =
      let n = length es + x.inner.at.next in
      mark_of_is b n es (parts_of (next_of x.inner.tree)) (parts_are n (next_of x.inner.tree) (next_is n x.inner.tree some_tree))

  -- a type, and the operators that it brings
  type_entered : (region : ℕ) (new : Declaration) (e : Design) → Entered d e → IsFine (entries e) new → is_type new.class ≡ true
      → Entered d (entering_type region new e).design
  type_entered region new e y fine type_class =
      let one = one_entered 304 region new e y.design fine in
      let f = (entering region new e).design in
      let here : Typed (entries f) (next_number e) = ap (λ c. is_type c.class) (new_at e.scopes region new) ∙ type_class in
      let more = operators_of_more f.scopes region (next_number e) new.class one.design.sound here (fine_more one.grows new fine).types in
      record {
        grows = grows_both y.grows (grows_both one.grows more.grows);
        design = record { sound = more.sound; spans = one.design.spans };
      }

  enumeration_entered : (region : ℕ) (w : Word) (literals : List Word) → Entered d (entering_enumeration region w literals d).design
  enumeration_entered region w literals =
      let new = declaration_of class.EnumerationType w None in
      let one = one_entered 304 region new d is (plain_fine es class.EnumerationType w None (record { named = refl; types = refl }) tt) in
      let f = (entering region new d).design in
      let here : Typed (entries f) (next_number d) = ap (λ c. is_type c.class) (new_at d.scopes region new) in
      let words = words_entered region class.EnumerationLiteral (Some (next_number d)) literals f one.design (record { named = refl; types = refl }) here in
      let g = (entering_words region class.EnumerationLiteral (Some (next_number d)) literals f).design in
      let more = operators_of_more g.scopes region (next_number d) class.EnumerationType words.design.sound (typed_more words.grows (next_number d) here) tt in
      record {
        grows = grows_both one.grows (grows_both words.grows more.grows);
        design = record { sound = more.sound; spans = words.design.spans };
      }

  array_entered : (syntax : Forest Form) → AllByRecursion (Typed es) (types_of (array_class x (next_of x.inner.tree)))
      → Entered d (entering_array x syntax (next_of x.inner.tree) d).design
  array_entered syntax arrays =
      let c = has_range (parts_of syntax) in
      let e = with_bounds c (next_number d) d in
      let same = bounds_same c (next_number d) d in
      let y = renoted d d e (entered_not d is) same (bounds_are c (next_number d) d is) in
      type_entered x.outer.region (declaration_of (array_class x (next_of x.inner.tree)) (word_of x) None) e y
      (subst (λ fs. IsFine fs (declaration_of (array_class x (next_of x.inner.tree)) (word_of x) None)) (sym same)
      (record { mark = tt; parameters = tt; generics = tt; named = (or_zero_own x.inner.at.named inner.named, tt); types = arrays })) refl

  record_entered : Entered d (entering_record x d).design
  record_entered =
      type_entered x.outer.region (record_of x (closed x.inside.region d)) (closed x.inside.region d) (record { grows = grows_not es; design = is })
      (record { mark = tt; parameters = members_own x.inside.region sort.Element d; generics = tt; named = tt; types = tt }) refl

  abbrev ArrayKnown : Form → Type 0
  ArrayKnown form.ArrayType = AllByRecursion (Typed es) (types_of (array_class x (next_of x.inner.tree)))
  ArrayKnown _ = Unit {0}

  definition_entered : (f : Form) (syntax : Forest Form) → ArrayKnown f → Entered d (entering_definition x f syntax (next_of x.inner.tree) d).design
  definition_entered form.EnumerationType syntax known = enumeration_entered x.outer.region (word_of x) (words_of (parts_of syntax))
  definition_entered form.ArrayType syntax known = array_entered syntax known
  definition_entered form.RecordType syntax known = record_entered
  definition_entered _ syntax known = entered_not d is

  abbrev literal_count : Form → Forest Resolved → ℕ
  literal_count form.EnumerationType t = tree_count (parts_of t)
  literal_count _ t = 0

  literals_are : (f : Form) (t n : ℕ) (fs : Entries) (definition : Forest Resolved) → (b ≡ true → suc t + literal_count f definition ≤ n) → TreeIs b n fs definition
      → TreeIs b n fs (literals_numbered f t definition)
  literals_are form.EnumerationType t n fs nothing h t_is = tt
  literals_are form.EnumerationType t n fs (more node text place parts next) h t_is = (t_is.0, t_is.1, numbers_put b n fs (suc t) parts h t_is.2, t_is.3)
  literals_are _ t n fs definition h t_is = t_is

  with_literals_are : (f : Form) (t n : ℕ) (fs : Entries) (ts : Forest Resolved) → (b ≡ true → suc t + literal_count f (next_of ts) ≤ n) → TreeIs b n fs ts
      → TreeIs b n fs (with_literals f t ts)
  with_literals_are f t n fs nothing h t_is = tt
  with_literals_are f t n fs (more node text place parts next) h t_is = (t_is.0, t_is.1, t_is.2, literals_are f t n fs next h t_is.3)

  abbrev pub TypeReach : Design → Type 0
  TypeReach e = b ≡ true → suc (next_number d) + literal_count (form_of_next x.parts) (next_of x.inner.tree) ≤ length (entries e)

  type_goes : ArrayKnown (form_of_next x.parts) → TypeReach (type_ends x).design → ReachIn (type_ends x).design → Goes (type_ends x)
  type_goes known types reach =
      let e = entering_definition x (form_of_next x.parts) (next_of x.parts) (next_of x.inner.tree) d in
      let y = definition_entered (form_of_next x.parts) (next_of x.parts) known in
      finished_goes (Some (next_number d)) None (with_literals (form_of_next x.parts) (next_number d) x.inner.tree) e.design e.first y tt
      (λ n h. below_if b n (next_number d) (λ t. let g = types t in omega (arith, g, h)))
      (λ n h next. with_literals_are (form_of_next x.parts) (next_number d) n (entries e.design) x.inner.tree (λ t. let g = types t in omega (arith, g, h)) (inner_tree e.design y.grows reach n h next))

  -- ---- subtypes, views and generics

  subtype_goes : ReachIn (subtype_ends x).design → Goes (subtype_ends x)
  subtype_goes reach =
      let c = is_narrow x in
      let e = with_bounds c (next_number d) d in
      let same = bounds_same c (next_number d) d in
      let y = renoted d d e (entered_not d is) same (bounds_are c (next_number d) d is) in
      let new = declaration_of (class.Subtype (or_zero x.inner.at.named)) (word_of x) x.inner.at.mark in
      let fine : IsFine es new = record { mark = inner.mark; parameters = tt; generics = tt; named = (or_zero_own x.inner.at.named inner.named, tt); types = tt } in
      let one = one_entered 304 x.outer.region new e y.design (subst (λ fs. IsFine fs new) (sym same) fine) in
      with_number (next_number d) (entering x.outer.region new e) (entered_then y one)
      (λ t. let long = one_longer 304 x.outer.region new e in let same_length = ap (λ fs. length fs) same in omega (arith, long, same_length)) reach

  view_goes : ReachIn (view_ends x).design → Goes (view_ends x)
  view_goes reach =
      let t = type_viewed x in
      let new = declaration_of class.View (word_of x) t in
      refused_goes (declares x x.inner.tree (entering x.outer.region new d)) _
      (one_goes 304 x.outer.region new (entering x.outer.region new d).first
      (plain_fine es class.View (word_of x) t (record { named = refl; types = refl }) (type_is (standpoint x.outer d) (point_sound x.outer d is) (declaration_of_tree (next_of x.inner.tree)))) reach)

  generic_type_goes : ReachIn (generic_type_ends x).design → Goes (generic_type_ends x)
  generic_type_goes reach =
      let new = declaration_of class.GenericType (word_of x) None in
      let y = type_entered x.outer.region new d (entered_not d is) (plain_fine es class.GenericType (word_of x) None (record { named = refl; types = refl }) tt) refl in
      let e = entering_type x.outer.region new d in
      let z = renoted d e.design (with_formal (next_number d) (record { mode = form.In; is_needed = true }) e.design) y refl (note_put (next_number d) _ e.design y.design (kept_span (next_number d) e.design y.design)) in
      with_number (next_number d) (with_generic (next_number d) true e) z
      (λ t. let one = one_entered 304 x.outer.region new d is (plain_fine es class.GenericType (word_of x) None (record { named = refl; types = refl }) tt) in
      let long = one_longer 304 x.outer.region new d in
      let f = (entering x.outer.region new d).design in
      let rest = longer (operators_of_more f.scopes x.outer.region (next_number d) class.GenericType one.design.sound (ap (λ c. is_type c.class) (new_at d.scopes x.outer.region new)) tt).grows in
      omega (arith, long, rest)) reach

  generic_function_goes : ReachIn (generic_function_ends x).design → Goes (generic_function_ends x)
  generic_function_goes reach =
      let new = function_of class.GenericFunction (word_of x) x.inner.at.mark x.inside.region d in
      let y = one_entered 304 x.outer.region new d is (function_fine class.GenericFunction (word_of x) x.inner.at.mark x.inside.region (record { named = refl; types = refl }) inner.mark) in
      let e = entering x.outer.region new d in
      let needed = is_form (form_at 4 x.parts) form.Absent in
      let z = renoted d e.design (with_formal (next_number d) (record { mode = form.In; is_needed = needed }) e.design) y refl (note_put (next_number d) _ e.design y.design (kept_span (next_number d) e.design y.design)) in
      with_number (next_number d) (with_generic (next_number d) needed e) z (λ t. let long = one_longer 304 x.outer.region new d in omega (arith, long)) reach

  -- ---- functions

  written_fine : (w : Word) (mark : Option ℕ) → OnSome (Typed es) mark → IsFine es (written_function w mark x.inside.region d)
  written_fine w mark typed =
      function_fine (function_class (header_generics x.inside.region d)) w mark x.inside.region (function_names (header_generics x.inside.region d)) typed

  function_goes : ReachIn (function_ends x).design → Goes (function_ends x)
  function_goes reach =
      let new = written_function (word_of x) x.inner.at.mark x.inside.region d in
      let o = declares x x.inner.tree (entering x.outer.region new d) in
      let y = one_goes 304 x.outer.region new (entering x.outer.region new d).first (written_fine (word_of x) x.inner.at.mark inner.mark) reach in
      renoted_goes o (function_ends x).design refl (note_put (next_number d) _ o.design y.design (omega arith)) y

  tied_are : (c : Class) (k : ℕ) (e : Design) → DesignIs e → DesignIs (with_tied x c k e)
  tied_are c k e e_is = tied_if (is_tied x c k)
    where
      tied_if : (t : Bool) → DesignIs (if t then tied_to k x.outer.unit e else e)
      tied_if true = note_put k _ e e_is (kept_span k e e_is)
      tied_if false = e_is

  tied_same : (c : Class) (k : ℕ) (e : Design) → entries (with_tied x c k e) ≡ entries e
  tied_same c k e = same_if (is_tied x c k)
    where
      same_if : (t : Bool) → entries (if t then tied_to k x.outer.unit e else e) ≡ entries e
      same_if true = refl
      same_if false = refl

  body_goes : (k : Option ℕ) → OnSome (Own es) k → ReachIn (body_of k x).design → Goes (body_of k x)
  body_goes None own reach =
      let new = function_of_body x in
      let fine : IsFine es new = written_fine (designator (next_of x.parts)) x.inner.at.result inner.result in
      let one = one_entered 304 x.outer.region new d is fine in
      let e = (entering x.outer.region new d).design in
      let k = next_number d in
      let spanned = with_span k (header_span x) e in
      let s_is : DesignIs spanned = note_put k _ e one.design inner.header_end in
      let bodied = with_body k spanned in
      let b_is : DesignIs bodied = body_is k spanned s_is in
      let y = renoted d e (with_tied x new.class k bodied) one (tied_same new.class k bodied) (tied_are new.class k bodied b_is) in
      with_number k (entering_body x k new) y
      (λ t. let long = one_longer 304 x.outer.region new d in let same_length = ap (λ fs. length fs) (tied_same new.class k bodied) in omega (arith, long, same_length)) reach
  body_goes (Some k) own reach =
      let c = (declaration_at d.scopes k).class in
      let e = with_body k d in
      let y = renoted d d (with_tied x c k e) (entered_not d is) (tied_same c k e) (tied_are c k e (body_is k d is)) in
      finished_goes (Some k) None x.inner.tree (with_tied x c k e) None y tt (λ n h. some_below b n (length es) (Some k) (let g = longer y.grows in omega (arith, g, h)) own)
      (inner_tree (with_tied x c k e) y.grows reach)

  -- ---- units

  unit_goes : ReachIn d → Goes (unit_ends x)
  unit_goes reach = unit_if _
    where
      unit_if : (c : Bool) → let o = finished x None None x.inner.tree d None in Goes (if c then record o { at = record o.at { unit = suc o.at.unit } } else o)
      unit_if true = let y = plainly reach in record { grows = y.grows; design = y.design; at = y.at; tree = y.tree }
      unit_if false = plainly reach

  unit_one_goes : (new : Declaration) (first : Option Refused) → IsFine es new → ReachIn (entering_unit new (closed x.inside.region d)).design
      → Goes (declares x x.inner.tree (entering_unit new (closed x.inside.region d)))
  unit_one_goes new first fine reach =
      let y = one_entered 301 REGION_OF_WORK new (closed x.inside.region d) is fine in
      with_number (next_number d) (entering_unit new (closed x.inside.region d)) (record { grows = y.grows; design = y.design })
      (λ t. let long = one_longer 301 REGION_OF_WORK new (closed x.inside.region d) in omega (arith, long)) reach

  entity_goes : ReachIn (entity_ends x).design → Goes (entity_ends x)
  entity_goes reach =
      unit_one_goes (record (unit_of class.Entity x) { parameters = declared_in x.inside.region sort.Port d; generics = declared_in x.inside.region sort.Generic d }) None
      (record { mark = tt; parameters = members_own x.inside.region sort.Port d; generics = members_own x.inside.region sort.Generic d; named = tt; types = tt }) reach

  context_goes : ReachIn (context_ends x).design → Goes (context_ends x)
  context_goes reach = context_if (is_single (parts_of x.parts)) reach
    where
      context_if : (c : Bool)
          → let o = if c then declares x x.inner.tree (entering_unit (unit_of class.Context x) (closed x.inside.region d)) else finished x None None x.inner.tree d None in
          ReachIn o.design → Goes o
      context_if true reach = unit_one_goes (unit_of class.Context x) None (record { mark = tt; parameters = tt; generics = tt; named = tt; types = tt }) reach
      context_if false reach = plainly reach

  -- an architecture of an entity that isn't known declares nothing
  architecture_goes : (inside : Option ℕ) → let new = declaration_of class.Architecture (word_of x) None in
      (b ≡ true → next_number d < length (entries (entering_architecture inside new d).design)) → ReachIn (entering_architecture inside new d).design
      → Goes (declares x x.inner.tree (entering_architecture inside new d))
  architecture_goes None own reach = with_number (next_number d) _ (entered_not d is) own reach
  architecture_goes (Some inside) own reach =
      with_number (next_number d) _ (one_entered 301 _ _ d is (plain_fine es class.Architecture (word_of x) None (record { named = refl; types = refl }) tt)) own reach

  besides_own : (generics : List ℕ) (region first : ℕ) → AllByRecursion (Own es) (declared_besides generics region first d)
  besides_own [] region first = tt
  besides_own (k ∷ ks) region first = all_filter (Own es) _ (declared_in region sort.Any d) (members_own region sort.Any d)

  package_names : (generics : List ℕ) → NamesNothing (package_class generics)
  package_names [] = record { named = refl; types = refl }
  package_names (k ∷ ks) = record { named = refl; types = refl }

  package_goes : (whole : Forest Form) → ReachIn (package_ends whole x).design → Goes (package_ends whole x)
  package_goes whole reach =
      let generics = declared_in x.inside.region sort.Generic d in
      let new = package_with generics x in
      let fine : IsFine es new = record {
        mark = tt;
        parameters = besides_own generics x.inside.region x.inner.at.header_end;
        generics = members_own x.inside.region sort.Generic d;
        named = subst (AllByRecursion (Own es)) (sym (package_names generics).named) tt;
        types = subst (AllByRecursion (Typed es)) (sym (package_names generics).types) tt;
      } in
      let k = next_number d in
      let y = one_entered 301 REGION_OF_WORK new (closed x.inside.region d) is fine in
      let e = (entering_unit new (closed x.inside.region d)).design in
      let f = with_instances_at_end whole x.inner.at.word x.inside.region e in
      let f_same = ended_same whole x.inner.at.word x.inside.region e in
      let f_is = ended_is whole x.inner.at.word x.inside.region e y.design in
      let z : Entered d (with_package_span x f) = record {
        grows = subst (Grows es) (sym f_same) y.grows;
        design = note_put k _ f f_is (omega arith);
      } in
      let long : next_number d < length (entries f) =
      let one = one_longer 301 REGION_OF_WORK new (closed x.inside.region d) in let same_length = ap (λ fs. length fs) f_same in omega (arith, one, same_length) in
      finished_goes (Some k) None (with_name k x.inner.tree) (with_package_span x f) _ z tt
      (λ n h. number_below b n k (omega (arith, h, long)))
      (λ n h next. name_put b n (entries f) k x.inner.tree (number_below b n k (omega (arith, h, long))) (inner_tree (with_package_span x f) z.grows reach n h next))
    where
      ended_same : (whole : Forest Form) (name : List ℕ) (region : ℕ) (e : Design) → entries (with_instances_at_end whole name region e) ≡ entries e
      ended_same whole name region e = same_if (has_body_in name whole)
        where
          same_if : (c : Bool) → entries (if c then e else with_bodies (instances_in region e) e) ≡ entries e
          same_if true = refl
          same_if false = bodies_same (instances_in region e) e

      ended_is : (whole : Forest Form) (name : List ℕ) (region : ℕ) (e : Design) → DesignIs e → DesignIs (with_instances_at_end whole name region e)
      ended_is whole name region e e_is = is_if (has_body_in name whole)
        where
          is_if : (c : Bool) → DesignIs (if c then e else with_bodies (instances_in region e) e)
          is_if true = e_is
          is_if false = bodies_are (instances_in region e) e e_is

  body_of_package_goes : (k : Option ℕ) → OnSome (Own es) k → ReachIn d → Goes (body_of_package k x)
  body_of_package_goes None own reach = plainly reach
  body_of_package_goes (Some k) own reach =
      let y : Entered d (with_body k d) = record { grows = grows_not es; design = body_is k d is } in
      finished_goes (Some k) None (with_name k x.inner.tree) (with_body k d) None y tt (λ n h. some_below b n (length es) (Some k) h own)
      (λ n h next. name_put b n es k x.inner.tree (some_below b n (length es) (Some k) h own) (inner_tree (with_body k d) y.grows reach n h next))

  -- ---- the type of an array, by what the whole design has

  array_known : {final : Entries} (f : Form) (syntax : Forest Form) → Grows (entries (entering_definition x f syntax (next_of x.inner.tree) d).design) final
      → ((k : ℕ) → AllByRecursion (Typed final) (types_of (entry_at final k).class)) → ArrayKnown f
  array_known {final} form.ArrayType syntax g known =
      let c = has_range (parts_of syntax) in
      let e = with_bounds c (next_number d) d in
      let new = declaration_of (array_class x (next_of x.inner.tree)) (word_of x) None in
      let f = (entering x.outer.region new e).design in
      let up : Grows (entries f) final = grows_both (operators_append f.scopes x.outer.region (next_number e) new.class) g in
      let whole : Grows es final = grows_both (same_grows (bounds_same c (next_number d) d)) (grows_both (entry_grows e.scopes x.outer.region new) up) in
      let there : entry_at final (next_number e) ≡ new = same_at up (next_number e) (new_own e.scopes x.outer.region new) ∙ new_at e.scopes x.outer.region new in
      let types : AllByRecursion (Typed final) (types_of (array_class x (next_of x.inner.tree))) =
      subst (λ q. AllByRecursion (Typed final) (types_of (Declaration.class q))) there (known (next_number e)) in
      (or_zero_typed whole (mark_of (parts_of (next_of x.inner.tree))) index_is types.0, (or_zero_typed whole x.inner.at.mark inner.mark types.1.0, tt))
  array_known _ syntax g known = tt

  -- ---- instances

  abbrev copied : ℕ → Design
  copied n = with_copies (copying_at x n) d

  package_declared_goes : (n : ℕ) → Own es n → ReachIn (package_declared x (copying_at x n)).design → Goes (package_declared x (copying_at x n))
  package_declared_goes n own reach =
      let c = copying_at x n in
      let e = copied n in
      let y = copies_entered x.outer d is n x.outer.region x.inner.at.actuals inner.actuals own in
      let same = copies_same x.outer d is n x.outer.region x.inner.at.actuals inner.actuals own in
      let copy = copies_own x.outer d is n x.outer.region x.inner.at.actuals inner.actuals own in
      let new = package_instance x c in
      let fine : IsFine (entries e) new = record {
        mark = tt;
        parameters = subst (λ fs. AllByRecursion (Own fs) (numbers_of_copies c c.generic.parameters)) (sym same) (copy c.generic.parameters (is.sound.fine n).parameters);
        generics = subst (λ fs. AllByRecursion (Own fs) (numbers_of_copies c c.generic.generics)) (sym same) (copy c.generic.generics (is.sound.fine n).generics);
        named = tt;
        types = tt;
      } in
      let one = one_entered 301 REGION_OF_WORK new e y.design fine in
      with_number (number_behind c) (entering_unit new e) (record { grows = grows_both y.grows one.grows; design = one.design })
      (λ t. let long = one_longer 301 REGION_OF_WORK new e in
      let next = behind_is_next x.outer d is n x.outer.region x.inner.at.actuals inner.actuals own in omega (arith, long, next)) reach

  package_of_goes : (n : ℕ) → Own es n → ReachIn (package_instance_of n x).design → Goes (package_instance_of n x)
  package_of_goes n own reach = of_if (are_settled d x.inner.at.actuals (declaration_at d.scopes n).generics) reach
    where
      of_if : (c : Bool) → ReachIn (if c then package_declared x (copying_at x n) else undeclared_package x).design
          → Goes (if c then package_declared x (copying_at x n) else undeclared_package x)
      of_if true reach = package_declared_goes n own reach
      of_if false reach = finished_goes None None x.inner.tree d _ (entered_not d is) tt (λ m h. tt) (inner_tree d (grows_not es) reach)

  package_as_goes : (n : Option ℕ) → OnSome (Own es) n → ReachIn (package_instance_as n x).design → Goes (package_instance_as n x)
  package_as_goes None own reach = finished_goes None None x.inner.tree d _ (entered_not d is) tt (λ m h. tt) (inner_tree d (grows_not es) reach)
  package_as_goes (Some n) own reach = refused_goes (package_instance_of n x) _ (package_of_goes n own reach)

  instance_are : (c : Bool) (k : ℕ) (e : Design) → DesignIs e → DesignIs (with_instance c k e)
  instance_are true k e e_is = note_put k _ e e_is (kept_span k e e_is)
  instance_are false k e e_is = body_is k (as_instance k e) (note_put k _ e e_is (kept_span k e e_is))

  instance_same : (c : Bool) (k : ℕ) (e : Design) → entries (with_instance c k e) ≡ entries e
  instance_same true k e = refl
  instance_same false k e = refl

  function_declared_goes : (n : ℕ) → Own es n → ReachIn (function_declared x (copying_at x n)).design → Goes (function_declared x (copying_at x n))
  function_declared_goes n own reach =
      let c = copying_at x n in
      let e = copied n in
      let y = copies_entered x.outer d is n x.outer.region x.inner.at.actuals inner.actuals own in
      let same = copies_same x.outer d is n x.outer.region x.inner.at.actuals inner.actuals own in
      let copy = copies_own x.outer d is n x.outer.region x.inner.at.actuals inner.actuals own in
      let new = function_instance x c in
      let f = with_instance x.outer.is_package (number_behind c) e in
      let f_same = instance_same x.outer.is_package (number_behind c) e in
      let fine : IsFine (entries e) new = record {
        mark = subst (λ fs. OnSome (Typed fs) (option_map (type_of_copy c) c.generic.mark)) (sym same)
            (some_copy_typed x.outer d is n x.outer.region x.inner.at.actuals inner.actuals own c.generic.mark (is.sound.fine n).mark);
        parameters = subst (λ fs. AllByRecursion (Own fs) (numbers_of_copies c c.generic.parameters)) (sym same) (copy c.generic.parameters (is.sound.fine n).parameters);
        generics = subst (λ fs. AllByRecursion (Own fs) (numbers_of_copies c c.generic.generics)) (sym same) (copy c.generic.generics (is.sound.fine n).generics);
        named = tt;
        types = tt;
      } in
      let z = renoted d e f y f_same (instance_are x.outer.is_package (number_behind c) e y.design) in
      let one = one_entered 304 x.outer.region new f z.design (subst (λ fs. IsFine fs new) (sym f_same) fine) in
      with_number (number_behind c) (entering x.outer.region new f) (record { grows = grows_both z.grows one.grows; design = one.design })
      (λ t. let long = one_longer 304 x.outer.region new f in
      let f_long = ap (λ fs. length fs) f_same in
      let next = behind_is_next x.outer d is n x.outer.region x.inner.at.actuals inner.actuals own in omega (arith, long, f_long, next)) reach

  function_of_goes : (n : ℕ) → Own es n → ReachIn (function_instance_of n x).design → Goes (function_instance_of n x)
  function_of_goes n own reach = of_if (are_settled d x.inner.at.actuals (declaration_at d.scopes n).generics) reach
    where
      of_if : (c : Bool) → ReachIn (if c then function_declared x (copying_at x n) else undeclared_function x).design
          → Goes (if c then function_declared x (copying_at x n) else undeclared_function x)
      of_if true reach = function_declared_goes n own reach
      of_if false reach = finished_goes None None x.inner.tree d _ (entered_not d is) tt (λ m h. tt) (inner_tree d (grows_not es) reach)

  function_as_goes : (n : Option ℕ) → OnSome (Own es) n → ReachIn (function_instance_as n x).design → Goes (function_instance_as n x)
  function_as_goes None own reach = finished_goes None None x.inner.tree d _ (entered_not d is) tt (λ m h. tt) (inner_tree d (grows_not es) reach)
  function_as_goes (Some n) own reach = refused_goes (function_instance_of n x) _ (function_of_goes n own reach)

  -- ---- all

  typed_goes : Goes (typed_ends x)
  typed_goes = record {
    grows = grows_not es;
    design = is;
    at = behind_is d (grows_not es);
    tree = λ n h next. (tt, inner.mark, tree n h next, tt);
  }

  clause_goes : ReachIn d → Goes (clause_ends x)
  clause_goes reach =
      let y = plainly reach in
      record {
        grows = y.grows;
        design = y.design;
        at = record {
          named = y.at.named;
          mark = y.at.mark;
          selector = y.at.selector;
          result = y.at.result;
          viewed = y.at.viewed;
          actuals = y.at.actuals;
          header_end = omega arith;
          function = y.at.function;
        };
        tree = y.tree;
      }

  -- what has to be known of an ending beside: of numbers that are given in front of their declarations
  abbrev pub EndIs : Forest Form → Ending → Type 0
  EndIs whole ending.Typed = Unit {0}
  EndIs whole ending.First = ReachIn d × (b ≡ true → x.inside.next < length es)
  EndIs whole ending.NewType = TypeReach (type_ends x).design × ReachIn (type_ends x).design
  EndIs whole ending.NewArchitecture = ReachIn (architecture_ends x).design × (b ≡ true → next_number d < length (entries (architecture_ends x).design))
  EndIs whole e = ReachIn (ended whole e x).design

  pub ended_goes : (whole : Forest Form) (e : Ending) {final : Entries} → Grows (entries (ended whole e x).design) final
      → ((k : ℕ) → AllByRecursion (Typed final) (types_of (entry_at final k).class)) → EndIs whole e → Goes (ended whole e x)
  ended_goes whole ending.Nothing g known reach = plainly reach
  ended_goes whole ending.First g known reach =
      finished_goes (Some x.inside.next) None x.inner.tree d None (entered_not d is) tt (λ n h. below_if b n x.inside.next (λ t. let own = reach.1 t in omega (arith, own, h)))
      (inner_tree d (grows_not es) reach.0)
  ended_goes whole ending.Typed g known reach = typed_goes
  ended_goes whole ending.Indicated g known reach = finished_goes None None x.inner.tree d _ (entered_not d is) tt (λ n h. tt) (inner_tree d (grows_not es) reach)
  ended_goes whole ending.ClauseEnds g known reach = clause_goes reach
  ended_goes whole (ending.Objects object names) g known reach = objects_go object names reach
  ended_goes whole ending.AllPorts g known reach = ports_go reach
  ended_goes whole ending.NewType g known reach = type_goes (array_known (form_of_next x.parts) (next_of x.parts) g known) reach.0 reach.1
  ended_goes whole ending.NewSubtype g known reach = subtype_goes reach
  ended_goes whole ending.NewView g known reach = view_goes reach
  ended_goes whole ending.NewGenericType g known reach = generic_type_goes reach
  ended_goes whole ending.NewGenericFunction g known reach = generic_function_goes reach
  ended_goes whole ending.NewFunction g known reach = function_goes reach
  ended_goes whole ending.BodyEnds g known reach = body_goes x.inner.at.function inner.function reach
  ended_goes whole ending.NewFunctionInstance g known reach = function_as_goes x.inner.at.named inner.named reach
  ended_goes whole ending.UnitEnds g known reach = unit_goes (unit_reach reach)
    where
      unit_reach : ReachIn (unit_ends x).design → ReachIn d
      unit_reach reach = reach_if (x.outer.region == REGION_OF_LIBRARIES) reach
        where
          reach_if : (c : Bool) → let o = finished x None None x.inner.tree d None in
              ReachIn (if c then record o { at = record o.at { unit = suc o.at.unit } } else o).design → ReachIn d
          reach_if true r = r
          reach_if false r = r
  ended_goes whole ending.NewEntity g known reach = entity_goes reach
  ended_goes whole ending.NewArchitecture g known reach =
      architecture_goes (region_inside d (unit_named sort.Entity (text_of (next_of x.parts)) d)) reach.1 reach.0
  ended_goes whole ending.NewPackage g known reach = package_goes whole reach
  ended_goes whole ending.PackageBodyEnds g known reach =
      let k = unit_named sort.WrittenPackage (text_of x.parts) d in
      body_of_package_goes k (found_own REGION_OF_WORK sort.WrittenPackage (text_of x.parts) d) (package_reach k reach)
    where
      package_reach : (k : Option ℕ) → ReachIn (body_of_package k x).design → ReachIn d
      package_reach None r = r
      package_reach (Some k) r = r
  ended_goes whole ending.NewPackageInstance g known reach = package_as_goes x.inner.at.named inner.named reach
  ended_goes whole ending.NewContext g known reach = context_goes reach
