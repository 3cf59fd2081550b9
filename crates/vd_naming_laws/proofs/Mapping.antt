-- What maps come to names what is declared.
use Rattle.std.proofs.Common.{◌≡◌, inl, inr, ◌≤◌, ℕ, suc, Bool, true, false, List, [], ◌∷◌, length, Option, Some, None, refl, sym, ap, ◌∙◌, subst, arith, if◌then◌else◌}
use Rattle.std.proofs.lemmas.Bool.{false≢true}
use Rattle.std.specs.List.{AllByRecursion, list_all}
use Rattle.vd_bytes.specs.declared.answers.Refused.{Refused}
use Rattle.vd_bytes.specs.declared.places.Place.{Place}
use Rattle.vd_declarations.specs.declared.classes.Class.{Class}
use Rattle.vd_declarations.specs.declared.classes.Class.TheVariants as class
use Rattle.vd_forest.specs.Forest.{Forest, nothing, more, parts_of, next_of, with_next}
use Rattle.vd_forms.specs.declared.form.Form.{Form}
use Rattle.vd_forms.specs.declared.form.Form.TheVariants as form
use Rattle.vd_regions.specs.Scopes.{declaration_at}
use Rattle.vd_resolved.specs.declared.node.Resolved.{Resolved}
use Rattle.vd_resolved.specs.Validity.{OnSome}
use Rattle.vd_visible.specs.Kinds.{role_of}
use Rattle.vd_visible.specs.Sights.{class_of, mark_of, name_of}
use Rattle.vd_ways.specs.Ways.{selection_name}
use Rattle.vd_overloads.specs.declared.wanted.Wanted.TheVariants as wanted
use Rattle.vd_name_rows.specs.declared.at.Actual.{Actual}
use Rattle.vd_name_rows.specs.declared.sorts.Sort.TheVariants as sort
use Rattle.vd_name_rows.specs.Designs.{At, Design, Outcome, standpoint, sight, gives}
use Rattle.vd_name_rows.specs.Noting.{formal_at}
use Rattle.vd_name_rows.specs.Refusals.{lesser}
use Rattle.vd_naming.specs.Associations.{Element, formal_name, generic_named, generic_for, left_behind, is_among_numbers, once, with_given, generic_at, elements, value_for}
use Rattle.vd_naming.specs.Actuals.{Known, actual_of, paired, type_in, mark_in, profile_in, is_function, functions_among, of_profile, only_one, function_among, head_meant, actual_meant, declarations_meant, pieces_named, function_named, type_outcome, function_outcome, constant_outcome, outcome_for, is_generic_type, is_generic_function, type_for, types_given}
use Rattle.vd_naming.specs.Expressions.{unresolved, mark_declared, type_declared, read_as_mark, with_mark}
use Rattle.vd_naming.specs.Expressions as naming
use Rattle.vd_naming.specs.Generics.{default_function, function_or_default, function_for, functions_given, in_element, element_outcome, elements_outcome, map_of, generic_map}
use Rattle.vd_naming.specs.Paths.{one_that, is_some}
use Rattle.vd_naming.specs.Ports.{Front, OfPort, Converted, OtherFront, port_named, last_argument, front_of_name, front, among_ports, converted, Map, no_map, with_element, with_other, value_as, actual, placed, place_of_next, converted_type, not_back, named_front, choices_node, association_node, form_of_tree, associated_with, associated, named_from_here, with_tree, with_trees, map_of_known, port_map}
use Rattle.vd_naming.specs.Selected.{Meant, meant_behind}
use Rattle.vd_naming.specs.Statements.{alone}
use Rattle.vd_naming.specs.Units.{region_inside}
use Rattle.vd_naming_laws.proofs.Lists.{OnOption, all_of, all_append, all_filter, filter_passes, all_weaker, all_flat_map, all_drop}
use Rattle.vd_naming_laws.proofs.Growth.{Entries, at as entry_at, Own, Typed, side, behind}
use Rattle.vd_naming_laws.proofs.Sights.{seen_own, port_own}
use Rattle.vd_naming_laws.proofs.Paths.{MeantIs, some_or_is, one_is, behind_is, type_is, first_own, inside_own}
use Rattle.vd_naming_laws.proofs.Expressing.{mark_of_is, Reads, not_named, read_tree, read_reads, mark_tree, marked_own, where_reads, made_wanted}
use Rattle.vd_naming_laws.proofs.States.{some_below, TreeIs, unresolved_is, joined_is, DesignIs, AtIs, entries, Comes, comes, point_sound}

-- a function is declared
function_own : (es : Entries) (k : ℕ) → is_function (role_of (entry_at es k).class) ≡ true → Own es k
function_own es k t = elim (side k (length es) _ refl) [
  | inl own ↦ own
  | inr out ↦ absurd (false≢true (sym (ap (λ e. is_function (role_of e.declaration.class)) (behind es k out)) ∙ t))
]

some_if : (P : Option ℕ → Type 0) (c : Bool) (x y : Option ℕ) → P x → P y → P (if c then x else y)
some_if P true x y p q = p
some_if P false x y p q = q

actuals_if : (P : Actual → Type 0) (c : Bool) (xs : List Actual) → AllByRecursion P xs → AllByRecursion P (if c then xs else [])
actuals_if P true xs are = are
actuals_if P false xs are = tt

module _ (b : Bool) (at : At) (d : Design) (is : DesignIs d) (a : AtIs (entries d) at) where
  abbrev es : Entries
  es = entries d

  abbrev Read : Outcome → Type 0
  Read o = Reads b at d o

  read_so : (o : Outcome) → o.at ≡ at → o.design ≡ d → ((n : ℕ) → length es ≤ n → TreeIs b n es o.tree) → Read o
  read_so o here there tree = record { at_is = here; design_is = there; tree = tree }

  abbrev ActualIs : Actual → Type 0
  ActualIs x = Own es x.actual

  paired_is : (g : ℕ) (k : Option ℕ) → OnSome (Own es) k → AllByRecursion ActualIs (paired g k)
  paired_is g None own = tt
  paired_is g (Some k) own = (own, tt)

  -- ---- functions

  only_own : (ks : List ℕ) → AllByRecursion (Own es) ks → OnSome (Own es) (only_one ks)
  only_own [] own = tt
  only_own (k ∷ []) own = own.0
  only_own (k ∷ j ∷ ks) own = tt

  among_own : (profile_wanted : List (Option ℕ)) (ks : List ℕ) → OnSome (Own es) (function_among (sight at d) profile_wanted ks)
  among_own profile_wanted ks =
      some_if (OnSome (Own es)) (list_all is_some profile_wanted) (only_one (of_profile (sight at d) profile_wanted ks)) None
      (only_own (of_profile (sight at d) profile_wanted ks)
      (all_filter (Own es) _ (functions_among (sight at d) ks)
      (all_weaker (λ k. is_function (role_of (class_of (sight at d) k)) ≡ true) (Own es) (function_own es) (functions_among (sight at d) ks)
      (filter_passes (λ k. is_function (role_of (class_of (sight at d) k))) ks)))) tt

  pieces_are : (k : ℕ) (m : Meant) (pieces : Forest Form) → Own es k → MeantIs es m → (n : ℕ) → length es ≤ n → TreeIs b n es (pieces_named (sight at d) k m pieces)
  pieces_are k m nothing own m_is n h = tt
  pieces_are k m (more f text place parts nothing) own m_is n h = (some_below b n (length es) (Some k) h own, tt, unresolved_is b n es parts, tt)
  pieces_are k m (more f text place parts (more f' text' place' parts' next)) own m_is n h = (
    some_below b n (length es) (one_that (λ j. true) m) h (one_is es (λ j. true) m m_is),
    tt,
    unresolved_is b n es parts,
    pieces_are k (meant_behind (sight at d) m (selection_name parts')) (more f' text' place' parts' next) own (behind_is (standpoint at d) (point_sound at d is) m (selection_name parts')) n h,
  )

  head_is : (pieces : Forest Form) → MeantIs es (head_meant (sight at d) pieces)
  head_is nothing = tt
  head_is (more f text place parts next) = some_or_is es 303 ((sight at d).visible text) (seen_own (standpoint at d) (point_sound at d is) text)

  function_is : (k : Option ℕ) (t : Forest Form) → OnSome (Own es) k → (n : ℕ) → length es ≤ n → TreeIs b n es (function_named (sight at d) k t)
  function_is None t own n h = unresolved_is b n es t
  function_is (Some k) nothing own n h = tt
  function_is (Some k) (more form.Quoted text place parts next) own n h = (some_below b n (length es) (Some k) h own, tt, tt, tt)
  function_is (Some k) (more form.Name text place parts next) own n h = (tt, tt, pieces_are k (head_meant (sight at d) parts) parts own (head_is parts) n h, tt)
  function_is (Some k) (more f text place parts next) own n h = unresolved_is b n es (more f text place parts next)

  -- ---- the actuals of a map

  module _ (generics : List ℕ) (types : List Actual) where
    abbrev k : Known
    k = record { sight = sight at d; generics = generics; types = types }

    type_in_is : (t : ℕ) → Typed es t → OnSome (Typed es) (type_in k t)
    type_in_is t typed =
        some_if (OnSome (Typed es)) (is_among_numbers generics t) (type_declared (sight at d) (actual_of t types)) (Some t)
        (type_is (standpoint at d) (point_sound at d is) (actual_of t types)) typed

    mark_in_is : (t : Option ℕ) → OnSome (Typed es) t → OnSome (Typed es) (mark_in k t)
    mark_in_is None typed = tt
    mark_in_is (Some t) typed = type_in_is t typed

    constant_reads : (g : ℕ) (place : Place) (t : Forest Form) → Read (constant_outcome at d k g place t)
    constant_reads g place t =
        let x = where_reads b at d is (with_mark wanted.OfType (mark_in k (mark_of k.sight g))) t
        (made_wanted b at d is wanted.OfType (λ u typed. typed) (mark_in k (mark_of k.sight g)) (mark_in_is (mark_of k.sight g) (is.sound.fine g).mark)) in
        record { at_is = x.at_is; design_is = x.design_is; tree = x.tree }

    type_reads : (place : Place) (t : Forest Form) → Read (type_outcome at d place t)
    type_reads place t = record { at_is = refl; design_is = refl; tree = λ n h. mark_tree b at d is t b n h }

    function_reads : (g : ℕ) (place : Place) (t : Forest Form) → Read (function_outcome at d k g place t)
    function_reads g place t = record {
      at_is = refl;
      design_is = refl;
      tree = function_is (function_among k.sight (profile_in k g) (declarations_meant (actual_meant k.sight t))) t
          (among_own (profile_in k g) (declarations_meant (actual_meant k.sight t)));
    }

    open_reads : (text : List ℕ) (place : Place) (parts : Forest Form) → Read (gives at d (unresolved (more form.Open text place parts nothing)) None)
    open_reads text place parts = not_named b at d is (more form.Open text place parts nothing)

    outcome_reads : (c : Class) (g : ℕ) (place : Place) (t : Forest Form) → Read (outcome_for c at d k g place t)
    outcome_reads class.GenericType g place nothing = type_reads place nothing
    outcome_reads class.GenericType g place (more form.Open text place' parts next) = open_reads text place' parts
    outcome_reads class.GenericType g place (more f text place' parts next) = type_reads place (more f text place' parts next)
    outcome_reads class.GenericFunction g place nothing = function_reads g place nothing
    outcome_reads class.GenericFunction g place (more form.Open text place' parts next) = open_reads text place' parts
    outcome_reads class.GenericFunction g place (more f text place' parts next) = function_reads g place (more f text place' parts next)
    outcome_reads _ g place nothing = constant_reads g place nothing
    outcome_reads _ g place (more form.Open text place' parts next) = open_reads text place' parts
    outcome_reads _ g place (more f text place' parts next) = constant_reads g place (more f text place' parts next)

  front_is : (g : ℕ) (t : Forest Form) → Own es g → (n : ℕ) → length es ≤ n → TreeIs b n es (named_front g t)
  front_is g nothing own n h = tt
  front_is g (more f text place parts next) own n h = (some_below b n (length es) (Some g) h own, tt, unresolved_is b n es parts, tt)

  choices_are : (choices : Forest Form) (inside : Forest Resolved) (n : ℕ) → TreeIs b n es inside → TreeIs b n es (choices_node choices inside)
  choices_are nothing inside n x = tt
  choices_are (more f text place parts next) inside n x = (tt, tt, x, tt)

  association_reads : (place : Place) (choices : Forest Form) (inside : Forest Resolved) (o : Outcome) (first : Option Refused)
      → ((n : ℕ) → length es ≤ n → TreeIs b n es inside) → Read o → Read (association_node place choices inside o first)
  association_reads place choices inside o first in_is x = record {
    at_is = x.at_is;
    design_is = x.design_is;
    tree = λ n h. (tt, tt, joined_is b n es (choices_node choices inside) o.tree (choices_are choices inside n (in_is n h)) (x.tree n h), tt);
  }

  in_element_reads : (g : ℕ) (f : Form) (place : Place) (parts : Forest Form) (o : Outcome) → Own es g → Read o → Read (in_element g f place parts o)
  in_element_reads g form.Association place parts o own x = association_reads place parts (named_front g (parts_of parts)) o None (front_is g (parts_of parts) own) x
  in_element_reads g _ place parts o own x = x

  -- ---- elements

  abbrev ElementIs : Element → Type 0
  ElementIs e = OnSome (Own es) e.generic

  once_own : (given : List ℕ) (g : Option ℕ) → OnSome (Own es) g → OnSome (Own es) (once given g)
  once_own given None own = tt
  once_own given (Some g) own = some_if (OnSome (Own es)) (is_among_numbers given g) None (Some g) tt own

  named_own : (n : ℕ) (name : Option (List ℕ)) → OnSome (Own es) (generic_named d n name)
  named_own n None = tt
  named_own n (Some name) = inside_own (region_inside d (Some n)) sort.Generic name d

  for_own : (n : ℕ) (left : List ℕ) (f : Form) (parts : Forest Form) → AllByRecursion (Own es) left → OnSome (Own es) (generic_for d n left f parts)
  for_own n left form.Association parts own = named_own n (formal_name parts)
  for_own n left form.OthersAssociation parts own = tt
  for_own n left f parts own = first_own es left own

  left_own : (f : Form) (left : List ℕ) → AllByRecursion (Own es) left → AllByRecursion (Own es) (left_behind f left)
  left_own form.Association left own = tt
  left_own form.OthersAssociation left own = tt
  left_own _ left own = all_drop (Own es) 1 left own

  elements_are : (n : ℕ) (left given : List ℕ) (ts : Forest Form) → AllByRecursion (Own es) left → AllByRecursion ElementIs (elements d n left given ts)
  elements_are n left given nothing own = tt
  elements_are n left given (more f text place parts next) own = (
    once_own given (generic_for d n left f parts) (for_own n left f parts own),
    elements_are n (left_behind f left) (with_given (generic_at d n left given f parts) given) next (left_own f left own),
  )

  module _ (generics : List ℕ) (types : List Actual) where
    abbrev known : Known
    known = record { sight = sight at d; generics = generics; types = types }

    element_reads : (g : Option ℕ) (given : Forest Form) (f : Form) (text : List ℕ) (place : Place) (parts : Forest Form) → OnSome (Own es) g
        → Read (element_outcome g at d known given f text place parts)
    element_reads None given f text place parts own = record { at_is = refl; design_is = refl; tree = λ n h. unresolved_is b n es (alone f text place parts) }
    element_reads (Some g) given f text place parts own =
        in_element_reads g f place parts (outcome_for (class_of known.sight g) at d known g place given) own (outcome_reads generics types (class_of known.sight g) g place given)

    all_elements_read : (xs : List Element) (ts : Forest Form) → AllByRecursion ElementIs xs → Read (elements_outcome at d known xs ts)
    all_elements_read [] ts own = record { at_is = refl; design_is = refl; tree = λ n h. tt }
    all_elements_read (x ∷ xs) nothing own = record { at_is = refl; design_is = refl; tree = λ n h. tt }
    all_elements_read (x ∷ xs) (more f text place parts next) own =
        let one = element_reads x.generic x.actual f text place parts own.0 in
        let others = all_elements_read xs next own.1 in
        let o = element_outcome x.generic at d known x.actual f text place parts in
        let p = elements_outcome at d known xs next in
        record { at_is = one.at_is; design_is = one.design_is; tree = λ n h. joined_is b n es o.tree p.tree (one.tree n h) (others.tree n h) }

    default_own : (g : ℕ) → OnSome (Own es) (default_function known g)
    default_own g = among_own (profile_in known g) (known.sight.visible (name_of known.sight g))

    function_or_own : (g : ℕ) (t : Option (Forest Form)) → OnSome (Own es) (function_or_default d known g t)
    function_or_own g (Some t) = among_own (profile_in known g) (declarations_meant (actual_meant known.sight t))
    function_or_own g None = some_if (OnSome (Own es)) (formal_at d g).is_needed None (default_function known g) tt (default_own g)

    functions_are : (xs : List Element) → AllByRecursion ActualIs (functions_given d known xs)
    functions_are xs =
        all_flat_map (function_for d known xs) (λ g. Unit {0}) ActualIs
        (λ g u. actuals_if ActualIs (is_generic_function (class_of known.sight g)) (paired g (function_or_default d known g (value_for g xs)))
        (paired_is g (function_or_default d known g (value_for g xs)) (function_or_own g (value_for g xs))))
        generics (all_of (λ g. Unit {0}) (λ g. tt) generics)

  type_for_is : (t : Forest Form) (g : Option ℕ) → AllByRecursion ActualIs (type_for at d t g)
  type_for_is t None = tt
  type_for_is t (Some g) =
      actuals_if ActualIs (is_generic_type (declaration_at d.scopes g).class) (paired g (mark_declared (read_as_mark at d t).tree))
      (paired_is g (mark_declared (read_as_mark at d t).tree) (marked_own b at d is t))

  types_are : (xs : List Element) → AllByRecursion ActualIs (types_given at d xs)
  types_are xs = all_flat_map (λ x. type_for at d x.actual x.generic) (λ x. Unit {0}) ActualIs (λ x u. type_for_is x.actual x.generic) xs (all_of (λ x. Unit {0}) (λ x. tt) xs)

  module _ (f : Form) (text : List ℕ) (place : Place) (parts : Forest Form) where
    map_goes : (n : Option ℕ) → Comes b d (map_of n at d f text place parts)
    map_goes None =
        comes b d (map_of None at d f text place parts) refl is
        (record { named = a.named; mark = a.mark; selector = a.selector; result = a.result; viewed = a.viewed; actuals = tt; header_end = a.header_end; function = a.function })
        (λ n h next. unresolved_is b n es (alone f text place parts))
    map_goes (Some n) =
        let generics = (declaration_at d.scopes n).generics in
        let xs = elements d n generics [] parts in
        let types = types_given at d xs in
        let x = all_elements_read generics types xs parts (elements_are n generics [] parts (is.sound.fine n).generics) in
        let o = elements_outcome at d (record { sight = sight at d; generics = generics; types = types }) xs parts in
        let a' : AtIs es o.at = subst (AtIs es) (sym x.at_is) a in
        comes b d (map_of (Some n) at d f text place parts) (ap entries x.design_is) (subst DesignIs (sym x.design_is) is)
        (record {
          named = a'.named;
          mark = a'.mark;
          selector = a'.selector;
          result = a'.result;
          viewed = a'.viewed;
          actuals = all_append ActualIs types (functions_given d (record { sight = sight at d; generics = generics; types = types }) xs) (types_are xs) (functions_are generics types xs);
          header_end = a'.header_end;
          function = a'.function;
        })
        (λ m h next. (tt, tt, x.tree m h, tt))

    pub generic_map_goes : Comes b d (generic_map at d f text place parts)
    generic_map_goes = map_goes at.named

  -- ---- ports

  abbrev MapIs : Map → Type 0
  MapIs m = (n : ℕ) → length es ≤ n → TreeIs b n es m.tree

  abbrev FrontIs : Front → Type 0
  FrontIs (OfPort k) = OnSome (Own es) k
  FrontIs (Converted k) = OnSome (Own es) k
  FrontIs OtherFront = Unit {0}

  option_own : (k : Option ℕ) → OnOption (Own es) k → OnSome (Own es) k
  option_own None own = tt
  option_own (Some k) own = own

  port_named_own : (entity : ℕ) (name : Option (List ℕ)) → OnSome (Own es) (port_named d entity name)
  port_named_own entity None = tt
  port_named_own entity (Some name) = option_own (port_named d entity (Some name)) (port_own d.scopes (region_inside d (Some entity)) name)

  front_if : (c : Bool) (k : Option ℕ) → OnSome (Own es) k → FrontIs (if c then OtherFront else Converted k)
  front_if true k own = tt
  front_if false k own = own

  front_of_own : (entity : ℕ) (pieces : Forest Form) → FrontIs (front_of_name d entity pieces)
  front_of_own entity nothing = tt
  front_of_own entity (more f text place parts nothing) = port_named_own entity (Some text)
  front_of_own entity (more f text place parts (more f' text' place' parts' next)) =
      front_if (is_some (port_named d entity (Some text))) (port_named d entity (last_argument (more f' text' place' parts' next)))
      (port_named_own entity (last_argument (more f' text' place' parts' next)))

  front_own : (entity : ℕ) (t : Forest Form) → FrontIs (front d entity t)
  front_own entity nothing = tt
  front_own entity (more form.Name text place parts nothing) = front_of_own entity parts
  front_own entity (more form.Name text place parts (more f' text' place' parts' next)) = tt
  front_own entity (more f text place parts next) = tt

  element_map : (k : ℕ) (place : Place) (o : Outcome) (m : Map) → ((n : ℕ) → length es ≤ n → TreeIs b n es o.tree) → MapIs m → MapIs (with_element k place o m)
  element_map k place o m o_is m_is n h = joined_is b n es m.tree o.tree (m_is n h) (o_is n h)

  other_map : (place : Place) (t : Forest Form) (m : Map) → MapIs m → MapIs (with_other at d place t m)
  other_map place t m m_is n h = joined_is b n es m.tree (unresolved t) (m_is n h) (unresolved_is b n es t)

  value_reads : (t : Option ℕ) (tree : Forest Form) → OnSome (Typed es) t → Read (value_as t at d tree)
  value_reads None tree typed = not_named b at d is tree
  value_reads (Some t) tree typed = read_reads b at d is (wanted.OfType t) tree typed

  actual_reads : (k : ℕ) (t : Option ℕ) (place : Place) (f : Form) (tree : Forest Form) → OnSome (Typed es) t → Read (actual k t at d place f tree)
  actual_reads k t place form.Open tree typed = record { at_is = refl; design_is = refl; tree = λ n h. unresolved_is b n es tree }
  actual_reads k t place f tree typed = value_reads t tree typed

  placed_map : (k : Option ℕ) (f : Form) (place : Place) (tree : Forest Form) (m : Map) → MapIs m → MapIs (placed k at d f place tree m)
  placed_map None f place tree m m_is = other_map place tree m m_is
  placed_map (Some k) f place tree m m_is =
      element_map k place (actual k (declaration_at d.scopes k).mark at d place f tree) m (actual_reads k (declaration_at d.scopes k).mark place f tree (is.sound.fine k).mark).tree m_is

  associated_map : (k : ℕ) (t : Option ℕ) (place : Place) (choices value : Forest Form) (inside : Forest Resolved) (first : Option Refused) (m : Map)
      → OnSome (Typed es) t → ((n : ℕ) → length es ≤ n → TreeIs b n es inside) → MapIs m → MapIs (associated_with k t at d place choices value inside first m)
  associated_map k t place choices value inside first m typed in_is m_is =
      let o = actual k t at d place (form_of_tree value) value in
      element_map k place (association_node place choices inside o first) m
      (association_reads place choices inside o first in_is (actual_reads k t place (form_of_tree value) value typed)).tree m_is

  converted_typed : (f : Form) (conversion own : Option ℕ) → OnSome (Typed es) conversion → OnSome (Typed es) own → OnSome (Typed es) (converted_type f conversion own)
  converted_typed form.Out conversion own x y = x
  converted_typed _ conversion own x y = y

  fronted_map : (front : Front) (entity : ℕ) (place : Place) (choices value tree : Forest Form) (m : Map) → FrontIs front → MapIs m
      → MapIs (associated front entity at d place choices value tree m)
  fronted_map (OfPort None) entity place choices value tree m own m_is = other_map place tree m m_is
  fronted_map (OfPort (Some k)) entity place choices value tree m own m_is =
      associated_map k (declaration_at d.scopes k).mark place choices value (named_front k (parts_of choices)) None m (is.sound.fine k).mark (front_is k (parts_of choices) own) m_is
  fronted_map (Converted None) entity place choices value tree m own m_is = other_map place tree m m_is
  fronted_map (Converted (Some k)) entity place choices value tree m own m_is =
      let o = converted entity at d (with_next (parts_of choices) nothing) in
      let o_is : (n : ℕ) → length es ≤ n → TreeIs b n es o.tree = λ n h. read_tree b (among_ports entity at d) d is wanted.Free (with_next (parts_of choices) nothing) tt b n h in
      associated_map k (converted_type (formal_at d k).mode (naming.mark_of o.tree) (declaration_at d.scopes k).mark) place choices value o.tree
      (lesser o.first (not_back k at d (naming.mark_of o.tree) (declaration_at d.scopes k).mark value)) m
      (converted_typed (formal_at d k).mode (naming.mark_of o.tree) (declaration_at d.scopes k).mark (mark_of_is b (length es) es o.tree (o_is (length es) (omega arith))) (is.sound.fine k).mark) o_is m_is
  fronted_map OtherFront entity place choices value tree m own m_is = other_map place tree m m_is

  tree_map : (entity n : ℕ) (f : Form) (place : Place) (parts tree : Forest Form) (m : Map) → MapIs m → MapIs (with_tree entity at d n f place parts tree m)
  tree_map entity n form.Association place parts tree m m_is =
      fronted_map (front d entity (parts_of parts)) entity place parts (with_next (next_of parts) nothing) tree (named_from_here m) (front_own entity (parts_of parts)) m_is
  tree_map entity n form.OthersAssociation place parts tree m m_is = other_map place tree m m_is
  tree_map entity n f place parts tree m m_is = placed_map (place_of_next m.is_named n (declaration_at d.scopes entity).parameters) f place tree m m_is

  trees_map : (entity n : ℕ) (ts : Forest Form) (m : Map) → MapIs m → MapIs (with_trees entity at d n ts m)
  trees_map entity n nothing m m_is = m_is
  trees_map entity n (more f text place parts next) m m_is =
      trees_map entity (suc n) next (with_tree entity at d n f place parts (more f text place parts nothing) m) (tree_map entity n f place parts (more f text place parts nothing) m m_is)

  module _ (f : Form) (text : List ℕ) (place : Place) (parts : Forest Form) where
    known_map : (k : Option ℕ) → Comes b d (map_of_known k at d f text place parts)
    known_map None = comes b d (map_of_known None at d f text place parts) refl is a (λ n h next. unresolved_is b n es (more f text place parts nothing))
    known_map (Some k) = comes b d (map_of_known (Some k) at d f text place parts) refl is a (λ n h next. (tt, tt, trees_map k 0 parts no_map (λ m g. tt) n h, tt))

    pub port_map_goes : Comes b d (port_map at d f text place parts)
    port_map_goes = known_map at.named
