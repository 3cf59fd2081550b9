-- What each step on one tree comes to names what is declared.
use Rattle.std.proofs.Common.{◌≡◌, ◌<◌, ◌≤◌, ◌+◌, ℕ, suc, Bool, true, false, List, [], ◌∷◌, length, Option, Some, None, refl, sym, ap, subst, arith, if◌then◌else◌, codes}
use Rattle.std.specs.List.{AllByRecursion}
use Rattle.std.specs.Option.{option_or}
use Rattle.std.specs.Str.{bytes_eq}
use Rattle.vd_bytes.specs.declared.answers.Refused.{Refused}
use Rattle.vd_bytes.specs.declared.places.Place.{Place}
use Rattle.vd_declarations.specs.declared.classes.Class.{Class}
use Rattle.vd_declarations.specs.declared.classes.Class.TheVariants as class
use Rattle.vd_declarations.specs.declared.declarations.Declaration.{Declaration}
use Rattle.vd_forest.specs.Forest.{Forest, nothing, more, tree_count}
use Rattle.vd_forms.specs.declared.form.Form.{Form}
use Rattle.vd_forms.specs.declared.form.Form.TheVariants as form
use Rattle.vd_predefined.specs.declared.numbers.TheConstants.{BOOLEAN, WORK, STD, IEEE}
use Rattle.vd_regions.specs.Scopes.{declaration_at, continued}
use Rattle.vd_resolved.specs.Validity.{OnSome}
use Rattle.vd_overloads.specs.declared.wanted.Wanted.TheVariants as wanted
use Rattle.vd_name_rows.specs.declared.steps.Object.{Object}
use Rattle.vd_name_rows.specs.declared.steps.Want.{Want}
use Rattle.vd_name_rows.specs.declared.steps.Want.TheVariants as want
use Rattle.vd_name_rows.specs.declared.sorts.Sort.TheVariants as sort
use Rattle.vd_name_rows.specs.Rows.{class_of}
use Rattle.vd_name_rows.specs.Designs.{At, Design, Outcome, standpoint, sight, gives}
use Rattle.vd_name_rows.specs.Entering.{numbered, declaration_of, entering}
use Rattle.vd_name_rows.specs.Members.{next_number}
use Rattle.vd_name_rows.specs.Noting.{with_loop, is_loop_label}
use Rattle.vd_naming.specs.Expressions.{resolved, unresolved, read_as, mark_of, at_hand, expression, target, selector}
use Rattle.vd_naming.specs.Paths.{one_that, path_meant, prefix_pieces, is_package, named_as, mark, is_entity}
use Rattle.vd_naming.specs.Selected.{Meant, Means, Breaks, some_or, is_uninstantiated}
use Rattle.vd_naming.specs.Indexes.{array_index, index_mark}
use Rattle.vd_naming.specs.Functions.{header_ends, header_ends_as, declaration_of_body, first_that, first_in_regions, is_declared_as, functions_round, round_of, written_function, is_uninstantiated_function}
use Rattle.vd_naming.specs.Statements.{alone, skipped, word, simple_name, names, label, label_name_as, label_name, declared_parameter, parameter, surplus}
use Rattle.vd_naming.specs.Units.{entity_word, library_named, library_as, library_word, with_used, used_as, use_name, referred, context_name, unit_named, region_inside}
use Rattle.vd_naming.specs.Views.{record_viewed, view_name, converse, element_named, names_of_elements, element_names, is_view}
use Rattle.vd_naming.specs.Generics.{meant_that, instantiated, generic_package, generic_function}
use Rattle.vd_naming.specs.Ports.{instance_entity, architecture_named, instance_architecture}
use Rattle.vd_naming_laws.proofs.Lists.{all_filter}
use Rattle.vd_naming_laws.proofs.Growth.{Entries, Own, Typed, IsFine, Grows, typed_own, grows_not, grows_both, longer, typed_some_more}
use Rattle.vd_naming_laws.proofs.Paths.{MeantIs, some_or_is, one_is, path_is, mark_is, members_own, found_own, inside_own}
use Rattle.vd_naming_laws.proofs.Sights.{seen_own}
use Rattle.vd_naming_laws.proofs.Expressing.{mark_of_is, Reads, reads_comes, read_reads, mark_reads, marked_typed, GivenIs, expression_reads}
use Rattle.vd_naming_laws.proofs.Entering.{NamesNothing, plain_fine, object_names, one_entered, one_longer, clauses_entered}
use Rattle.vd_naming_laws.proofs.States.{Number, number_below, some_below, TreeIs, unresolved_is, tree_more, DesignIs, note_is, noted, AtIs, at_more, entries, Comes, comes, point_sound}

below_if : (b : Bool) (n k : ℕ) → (b ≡ true → k < n) → Number b n k
below_if false n k h = tt
below_if true n k h = h refl

numbered_is : (b : Bool) (n : ℕ) (es : Entries) (k : ℕ) (ts : Forest Form) → (b ≡ true → k + tree_count ts ≤ n) → TreeIs b n es (numbered k (unresolved ts))
numbered_is b n es k nothing h = tt
numbered_is b n es k (more f text place parts next) h =
    (below_if b n k (λ t. let g = h t in omega (arith, g)), tt, unresolved_is b n es parts, numbered_is b n es (suc k) next (λ t. let g = h t in omega (arith, g)))

module _ (b : Bool) (at : At) (d : Design) (is : DesignIs d) (a : AtIs (entries d) at) where
  abbrev es : Entries
  es = entries d

  abbrev Goes : Outcome → Type 0
  Goes o = Comes b d o

  -- nothing is entered, and what is named is declared
  stays : (o : Outcome) → o.design ≡ d → AtIs es o.at → ((n : ℕ) → length es ≤ n → TreeIs b n es o.tree) → Goes o
  stays o e here tree = comes b d o (ap entries e) (subst DesignIs (sym e) is) here (λ n h _. tree n h)

  one_node : (f : Form) (k : Option ℕ) (text : List ℕ) (place : Place) (parts : Forest Form) → OnSome (Own es) k → (n : ℕ) → length es ≤ n
      → TreeIs b n es (more (resolved f k None) text place (unresolved parts) nothing)
  one_node f k text place parts own n h = (some_below b n (length es) k h own, tt, unresolved_is b n es parts, tt)

  one_leaf : (f : Form) (k : Option ℕ) (text : List ℕ) (place : Place) → OnSome (Own es) k → (n : ℕ) → length es ≤ n
      → TreeIs b n es (more (resolved f k None) text place nothing nothing)
  one_leaf f k text place own n h = (some_below b n (length es) k h own, tt, tt, tt)

  seen_meant : (rule : ℕ) (text : List ℕ) → MeantIs es (some_or rule ((sight at d).visible text))
  seen_meant rule text = some_or_is es rule ((sight at d).visible text) (seen_own (standpoint at d) (point_sound at d is) text)

  path_meant_is : (pieces : Forest Form) → MeantIs es (path_meant (sight at d) pieces)
  path_meant_is pieces = path_is (standpoint at d) (point_sound at d is) pieces

  module _ (f : Form) (text : List ℕ) (place : Place) (parts : Forest Form) where
    abbrev tree : Forest Form
    tree = alone f text place parts

    pub skipped_goes : Goes (skipped at d (alone f text place parts))
    skipped_goes = stays (skipped at d tree) refl a (λ n h. unresolved_is b n es tree)

    pub word_goes : Goes (word at d f text place parts)
    word_goes = stays (word at d f text place parts) refl a (λ n h. unresolved_is b n es tree)

    pub simple_name_goes : Goes (simple_name at d place (alone f text place parts))
    simple_name_goes = stays (simple_name at d place tree) refl a (λ n h. unresolved_is b n es tree)

    pub names_goes : Goes (names at d f text place parts)
    names_goes = comes b d (names at d f text place parts) refl is a (λ n h next. (tt, tt, numbered_is b n es at.next parts next, tt))

    pub surplus_goes : Goes (surplus at d place (alone f text place parts))
    surplus_goes = stays (surplus at d place tree) refl a (λ n h. unresolved_is b n es tree)

    -- ---- selected names

    named_goes : (here : At) → standpoint here d ≡ standpoint at d → (fits : ℕ → Bool) → AtIs es here → Goes (named_as fits here d place (alone f text place parts))
    named_goes here same fits a' =
        let m = path_is (standpoint here d) (point_sound here d is) parts in
        let k = one_is es fits (path_meant (sight here d) parts) m in
        stays (named_as fits here d place tree) refl
        (record {
          named = k;
          mark = mark_is (standpoint here d) (point_sound here d is) (one_that fits (path_meant (sight here d) parts));
          selector = a'.selector;
          result = a'.result;
          viewed = a'.viewed;
          actuals = a'.actuals;
          header_end = a'.header_end;
          function = a'.function;
        })
        (one_node f (one_that fits (path_meant (sight here d) parts)) text place parts k)

    pub mark_goes : Goes (mark at d place (alone f text place parts))
    mark_goes = named_goes at refl _ a

    viewed_typed : (k : Option ℕ) → OnSome (Typed es) (record_viewed d k)
    viewed_typed None = tt
    viewed_typed (Some k) = (is.sound.fine k).mark

    pub view_name_goes : Goes (view_name at d place (alone f text place parts))
    view_name_goes =
        let x = named_goes at refl (λ k. is_view (declaration_at d.scopes k).class) a in
        record {
          grows = x.grows;
          design = x.design;
          at = record {
            named = x.at.named;
            mark = viewed_typed (named_as (λ k. is_view (declaration_at d.scopes k).class) at d place tree).at.named;
            selector = a.selector;
            result = a.result;
            viewed = a.viewed;
            actuals = a.actuals;
            header_end = a.header_end;
            function = a.function;
          };
          tree = x.tree;
        }

    pub instance_entity_goes : Goes (instance_entity at d place (alone f text place parts))
    instance_entity_goes = named_goes _ refl (λ k. is_entity (declaration_at d.scopes k).class) a

    meant_that_is : (test : ℕ → Bool) (m : Meant) → MeantIs es m → MeantIs es (meant_that test m)
    meant_that_is test (Means ks) own = all_filter (Own es) test ks own
    meant_that_is test (Breaks rule) own = tt

    instantiated_goes : (test : Class → Bool) (prefix : Forest Form) → Goes (instantiated test prefix at d place (alone f text place parts))
    instantiated_goes test prefix =
        let m = meant_that (λ k. test (declaration_at d.scopes k).class) (path_meant (sight at d) parts) in
        let k = one_is es (λ j. true) m (meant_that_is (λ k. test (declaration_at d.scopes k).class) (path_meant (sight at d) parts) (path_meant_is parts)) in
        stays (instantiated test prefix at d place tree) refl
        (record { named = k; mark = tt; selector = a.selector; result = a.result; viewed = a.viewed; actuals = a.actuals; header_end = a.header_end; function = a.function })
        (one_node f (one_that (λ j. true) m) text place parts k)

    pub generic_package_goes : Goes (generic_package at d place (alone f text place parts))
    generic_package_goes = instantiated_goes is_uninstantiated (prefix_pieces parts)

    pub generic_function_goes : Goes (generic_function at d place (alone f text place parts))
    generic_function_goes = instantiated_goes is_uninstantiated_function parts

    -- ---- use clauses and references to contexts

    with_used_goes : (k from : Option ℕ) (name : Option (List ℕ)) (first : Option Refused) → OnSome (Own es) k
        → Goes (gives at (with_used at d from name) (more (resolved f k None) text place (unresolved parts) nothing) first)
    with_used_goes k None name first own = comes b d (gives at d (more (resolved f k None) text place (unresolved parts) nothing) first) refl is a (λ n h next. one_node f k text place parts own n h)
    with_used_goes k (Some from) name first own =
        comes b d (gives at (with_used at d (Some from) name) (more (resolved f k None) text place (unresolved parts) nothing) first) refl (record { sound = is.sound; spans = is.spans }) a
        (λ n h next. one_node f k text place parts own n h)

    used_goes : (k : Option ℕ) (m : Meant) → OnSome (Own es) k → Goes (used_as k m at d place (alone f text place parts))
    used_goes None m own = stays (used_as None m at d place tree) refl a (one_node f None text place parts tt)
    used_goes (Some k) m own = with_used_goes (Some k) (declaration_at d.scopes k).inside _ _ own

    pub use_name_goes : Goes (use_name at d place (alone f text place parts))
    use_name_goes =
        let m = path_meant (sight at d) (prefix_pieces parts) in
        used_goes (one_that (λ k. is_package (declaration_at d.scopes k).class) m) m
        (one_is es (λ k. is_package (declaration_at d.scopes k).class) m (path_meant_is (prefix_pieces parts)))

    referred_goes : (k : Option ℕ) (m : Meant) → OnSome (Own es) k → Goes (referred k m at d place (alone f text place parts))
    referred_goes None m own = stays (referred None m at d place tree) refl a (one_node f None text place parts tt)
    referred_goes (Some k) m own =
        let e = clauses_entered at.region (declaration_at d.scopes k).inside d is in
        record {
          grows = e.grows;
          design = e.design;
          at = at_more e.grows at a;
          tree = λ n h next.
              tree_more b n n e.grows (omega arith) (more (resolved f (Some k) None) text place (unresolved parts) nothing)
              (one_node f (Some k) text place parts own n (omega (arith, h, longer e.grows)));
        }

    pub context_name_goes : Goes (context_name at d place (alone f text place parts))
    context_name_goes = referred_goes _ _ (one_is es _ _ (path_meant_is parts))

    -- ---- names of elements

    elements_are : (t : Option ℕ) (ts : Forest Form) (n : ℕ) → length es ≤ n → TreeIs b n es (names_of_elements d t ts)
    elements_are t nothing n h = tt
    elements_are t (more g text' place' parts' next) n h =
        (some_below b n (length es) (element_named d t text') h (inside_own (region_inside d t) sort.Element text' d), tt, unresolved_is b n es parts', elements_are t next n h)

    pub element_names_goes : Goes (element_names at d f text place parts)
    element_names_goes = stays (element_names at d f text place parts) refl a (λ n h. (tt, tt, elements_are at.viewed parts n h, tt))

    -- ---- the end of a header

    some_or_rest : (c : Bool) (k : ℕ) (rest : Option ℕ) → Own es k → OnSome (Own es) rest → OnSome (Own es) (if c then Some k else rest)
    some_or_rest true k rest own others = own
    some_or_rest false k rest own others = others

    first_that_own : (test : ℕ → Bool) (ks : List ℕ) → AllByRecursion (Own es) ks → OnSome (Own es) (first_that test ks)
    first_that_own test [] own = tt
    first_that_own test (k ∷ ks) own = some_or_rest (test k) k (first_that test ks) own.0 (first_that_own test ks own.1)

    or_own : (x y : Option ℕ) → OnSome (Own es) x → OnSome (Own es) y → OnSome (Own es) (option_or x y)
    or_own None y p q = q
    or_own (Some x) y p q = p

    in_regions_own : (here : At) (body : Declaration) (rs : List ℕ) → OnSome (Own es) (first_in_regions here d body rs)
    in_regions_own here body [] = tt
    in_regions_own here body (r ∷ rs) =
        or_own (first_that (is_declared_as here d body) (functions_round d r)) (first_in_regions here d body rs)
        (first_that_own (is_declared_as here d body) (functions_round d r) (members_own r sort.WrittenFunction d)) (in_regions_own here body rs)

    header_as_goes : (k : Option ℕ) (o : Outcome) (new : Declaration) → Goes o → o.design ≡ d → OnSome (Own es) k → OnSome (Typed es) new.mark
        → Goes (header_ends_as k o.at d new o)
    header_as_goes None o new x e own typed = record {
      grows = x.grows;
      design = x.design;
      at = record {
        named = x.at.named;
        mark = x.at.mark;
        selector = x.at.selector;
        result = typed_some_more x.grows new.mark typed;
        viewed = x.at.viewed;
        actuals = x.at.actuals;
        header_end = longer x.grows;
        function = tt;
      };
      tree = x.tree;
    }
    header_as_goes (Some k) o new x e own typed = record {
      grows = grows_not es;
      design = record { sound = is.sound; spans = is.spans };
      at = let y = subst (λ q. AtIs (entries q) o.at) e x.at in
          record {
            named = y.named;
            mark = y.mark;
            selector = y.selector;
            result = typed;
            viewed = y.viewed;
            actuals = y.actuals;
            header_end = omega arith;
            function = own;
          };
      tree = subst (λ q. (n : ℕ) → length (entries q) ≤ n → (b ≡ true → o.at.next ≤ n) → TreeIs b n (entries q) o.tree) e x.tree;
    }

    pub result_goes : Goes (header_ends (mark at d place (alone f text place parts)))
    result_goes =
        let o = mark at d place tree in
        let new = written_function (record { name = o.at.word; place = o.at.word_place }) o.at.mark o.at.region d in
        header_as_goes (declaration_of_body o.at d new) o new mark_goes refl (in_regions_own o.at new (round_of d o.at.region ∷ continued d.scopes (round_of d o.at.region))) mark_goes.at.mark

    -- ---- expressions

    pub expression_goes : (w : Want) → GivenIs b at d is w → Goes (expression w at d (alone f text place parts))
    expression_goes w g = reads_comes b at d (expression w at d tree) is a (expression_reads b at d is a w g tree)

    hand_goes : (o : Outcome) → Reads b at d o → Goes (at_hand o)
    hand_goes o r =
        let x = reads_comes b at d o is a r in
        record {
          grows = x.grows;
          design = x.design;
          at = record {
            named = x.at.named;
            mark = typed_some_more x.grows (mark_of o.tree) (mark_of_is b (length es) es o.tree (r.tree (length es) (omega arith)));
            selector = x.at.selector;
            result = x.at.result;
            viewed = x.at.viewed;
            actuals = x.at.actuals;
            header_end = x.at.header_end;
            function = x.at.function;
          };
          tree = x.tree;
        }

    pub target_goes : Goes (target at d (alone f text place parts))
    target_goes = hand_goes (read_as at d wanted.Free tree) (read_reads b at d is wanted.Free tree tt)

    pub array_index_goes : Goes (array_index at d (alone f text place parts))
    array_index_goes = hand_goes (expression want.AnyRange at d tree) (expression_reads b at d is a want.AnyRange tt tree)

    pub selector_goes : Goes (selector at d (alone f text place parts))
    selector_goes =
        let r = read_reads b at d is wanted.Free tree tt in
        stays (selector at d tree) refl
        (record {
          named = a.named;
          mark = a.mark;
          selector = mark_of_is b (length es) es (read_as at d wanted.Free tree).tree (r.tree (length es) (omega arith));
          result = a.result;
          viewed = a.viewed;
          actuals = a.actuals;
          header_end = a.header_end;
          function = a.function;
        })
        r.tree

    pub index_mark_goes : Goes (index_mark at d (alone f text place parts))
    index_mark_goes =
        stays (index_mark at d tree) refl
        (record {
          named = a.named;
          mark = marked_typed b at d is tree;
          selector = a.selector;
          result = a.result;
          viewed = a.viewed;
          actuals = a.actuals;
          header_end = a.header_end;
          function = a.function;
        })
        (mark_reads b at d is tree).tree

    parameter_of : (c : Class) (o : Outcome) → NamesNothing c → Goes o → Goes (declared_parameter c o)
    parameter_of c o none x =
        let new = declaration_of c (record { name = o.at.word; place = o.at.word_place }) o.at.mark in
        let e = one_entered 304 o.at.region new o.design x.design (plain_fine (entries o.design) c _ o.at.mark none x.at.mark) in
        record {
          grows = grows_both x.grows e.grows;
          design = e.design;
          at = at_more e.grows o.at x.at;
          tree = λ n h next. tree_more b n n e.grows (omega arith) o.tree (x.tree n (omega (arith, h, longer e.grows)) next);
        }

    pub parameter_goes : (o : Object) → Goes (parameter (class_of o) at d (alone f text place parts))
    parameter_goes o = parameter_of (class_of o) (at_hand (expression want.AnyRange at d tree)) (object_names o) array_index_goes

  -- ---- leaves

  module _ (f : Form) (text : List ℕ) (place : Place) where
    loop_is : (c : Bool) (k : ℕ) (e : Design) → DesignIs e → DesignIs (with_loop c k e)
    loop_is true k e e_is = noted k _ e e_is (note_is e k e_is.spans)
    loop_is false k e e_is = e_is

    loop_same : (c : Bool) (k : ℕ) (e : Design) → entries (with_loop c k e) ≡ entries e
    loop_same true k e = refl
    loop_same false k e = refl

    pub label_goes : Goes (label at d f text place)
    label_goes =
        let new = declaration_of class.Label (record { name = text; place = place }) None in
        let e = one_entered 304 at.region new d is (plain_fine es class.Label _ None (record { named = refl; types = refl }) tt) in
        let whole = (entering at.region new d).design in
        let same = loop_same at.is_loop (next_number d) whole in
        let long = one_longer 304 at.region new d in
        record {
          grows = subst (Grows es) (sym same) e.grows;
          design = loop_is at.is_loop (next_number d) whole e.design;
          at = subst (λ fs. AtIs fs at) (sym same) (at_more e.grows at a);
          tree = λ n h next. (number_below b n (next_number d) (let same_length = ap (λ fs. length fs) same in omega (arith, h, long, same_length)), tt, tt, tt);
        }

    library_fine : (library : ℕ) → Own es library → IsFine es (declaration_of (class.LibraryName library) (record { name = text; place = place }) None)
    library_fine library own = record { mark = tt; parameters = tt; generics = tt; named = (own, tt); types = tt }

    library_as_goes : (k : Option ℕ) → OnSome (Own es) k → Goes (library_as k at d f text place)
    library_as_goes None own = stays (library_as None at d f text place) refl a (one_leaf f None text place tt)
    library_as_goes (Some library) own =
        let e = one_entered 304 at.region _ d is (library_fine library own) in
        record {
          grows = e.grows;
          design = e.design;
          at = at_more e.grows at a;
          tree = λ n h next. (some_below b n (length es) (Some library) (omega (arith, h, longer e.grows)) own, tt, tt, tt);
        }

    small_own : (k : ℕ) → k < 3 → Own es k
    small_own k h = let t = typed_own es BOOLEAN is.sound.boolean in omega (arith, h, t)

    named_if : (c c' c'' : Bool) → OnSome (Own es) (if c then Some WORK else (if c' then Some STD else (if c'' then Some IEEE else None)))
    named_if true c' c'' = small_own WORK (omega arith)
    named_if false true c'' = small_own STD (omega arith)
    named_if false false true = small_own IEEE (omega arith)
    named_if false false false = tt

    pub library_word_goes : Goes (library_word at d f text place)
    library_word_goes = library_as_goes (library_named text) (named_if (bytes_eq text (codes "work")) (bytes_eq text (codes "std")) (bytes_eq text (codes "ieee")))

    pub entity_word_goes : Goes (entity_word at d f text place)
    entity_word_goes =
        let k = found_own _ sort.Entity text d in
        stays (entity_word at d f text place) refl
        (record { named = k; mark = a.mark; selector = a.selector; result = a.result; viewed = a.viewed; actuals = a.actuals; header_end = a.header_end; function = a.function })
        (one_leaf f (unit_named sort.Entity text d) text place k)

    label_named_goes : (m : Meant) → MeantIs es m → Goes (label_name_as m at d f text place)
    label_named_goes m own =
        let k = one_is es (is_loop_label d) m own in
        stays (label_name_as m at d f text place) refl a (one_leaf f (one_that (is_loop_label d) m) text place k)

  pub label_name_goes : (f : Form) (text : List ℕ) (place : Place) → Goes (label_name at d f text place)
  label_name_goes form.Absent text place = skipped_goes form.Absent text place nothing
  label_name_goes f text place = label_named_goes f text place (some_or 303 ((sight at d).visible text)) (seen_meant 303 text)

  pub converse_goes : (f : Form) (text : List ℕ) (place : Place) → Goes (converse at d f text place)
  converse_goes form.Absent text place = stays (converse at d form.Absent text place) refl a (λ n h. unresolved_is b n es (alone form.Absent text place nothing))
  converse_goes f text place = stays (converse at d f text place) refl a (λ n h. unresolved_is b n es (alone f text place nothing))

  named_architecture : (inside : Option ℕ) (text : List ℕ) → OnSome (Own es) (architecture_named inside d text)
  named_architecture None text = tt
  named_architecture (Some inside) text = found_own _ sort.Any text d

  pub instance_architecture_goes : (whole : Forest Form) (f : Form) (text : List ℕ) (place : Place) → Goes (instance_architecture whole at d f text place)
  instance_architecture_goes whole form.Absent text place = stays (instance_architecture whole at d form.Absent text place) refl a (one_leaf form.Absent None text place tt)
  instance_architecture_goes whole f text place =
      stays (instance_architecture whole at d f text place) refl a
      (one_leaf f (architecture_named (region_inside d at.named) d text) text place (named_architecture (region_inside d at.named) text))
