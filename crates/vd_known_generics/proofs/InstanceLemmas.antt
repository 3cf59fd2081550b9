-- What is known where the table changes and no subtype comes.
use Rattle.std.proofs.Common.{◌≡◌, ◌∷◌, List, None, Option, Some, [], ap, map, subst, sym, ◌∙◌, ℕ}
use Rattle.std.specs.Prelude.{Err, IfOk, MatchOption, Ok, OnOk, Result}
use Rattle.vd_bytes.specs.declared.places.Place.{Place}
use Rattle.vd_environments.specs.Environments.{Static, never}
use Rattle.vd_operations.proofs.PassingLemmas.{nth_skipped}
use Rattle.vd_forest.specs.Forest.{Forest, more, skipped}
use Rattle.vd_forest.proofs.StoreLemmas.{extends_same}
use Rattle.vd_forest.specs.Store.{Extends}
use Rattle.vd_value_rules.specs.declared.forms.IndicatedForm.{IndicatedForm}
use Rattle.vd_static_names.specs.Jumps.{AreJumps}
use Rattle.vd_known_generics.specs.Actuals.{AreActuals}
use Rattle.vd_known_generics.specs.declared.actuals.Actual.{Actual}
use Rattle.vd_known_designs.specs.Designs.{AreIndicated, Knows}
use Rattle.vd_known_designs.specs.declared.design.KnownDesign.{KnownDesign}
use Rattle.vd_known_designs.specs.declared.indications.TwoSubtypes.{TwoSubtypes}
use Rattle.vd_known_generics.specs.Inside.{IsInside, inside_of}
use Rattle.vd_known_generics.specs.Standing.{Stands}
use Rattle.vd_known_designs.specs.Contents.{or_nothing}
use Rattle.vd_known_designs.specs.Known.{AreKnown}
use Rattle.vd_known_designs.specs.declared.table.KnownTable.{KnownTable}
use Rattle.vd_meaning.specs.Facets.{MapElement, Meaning, nth}
use Rattle.vd_meaning.specs.Meanings.{made, map_element, meanings}
use Rattle.vd_meaning.specs.Names.{number_or}
use Rattle.vd_meaning.specs.Tables.{Table, pairs}
use Rattle.vd_resolved.specs.declared.node.Resolved.{Resolved}
use Rattle.vd_value_rules.specs.Designs.{Design}
use Rattle.vd_value_rules.specs.Knowledge.{Known, at_mark, indicated_twice, later_objects, meaning_at, parts_at}
use Rattle.vd_value_rules.specs.Declaring.{FunctionInstance, TwoActuals, actuals_known, declared_by, generics_stand, instance_of_function, instance_result, parameters_known, taken_known}

pub table_changed : (d : Design) (x : KnownDesign) (y : KnownTable) (ks ls : List Known) → y.subtypes ≡ x.table.subtypes → Knows d x ks
    → (AreKnown d.table x.table ks → AreKnown d.table y ls) → Knows d (record x { table = y }) ls
table_changed d x y ks ls same knows changed = record {
  table = knows.table;
  known = changed knows.known;
  jumps = subst (AreJumps x.fields.jumps.items) (sym same) knows.jumps;
}

pub on_ok : {A E : Type 0} {P Q : Type 0} (r : Result A E) → (P → Q) → OnOk r P → OnOk r Q
on_ok (Ok x) f p = f p
on_ok (Err e) f p = tt

-- what is read of a part
pub at_part : {B : Type 0} (d : Design) (n : ℕ) (parts skips : Forest Resolved) (of : Meaning → B) → skips ≡ skipped n parts
    → of (nth 0 (meanings d.table skips)) ≡ of (meaning_at d n parts)
at_part d n parts skips of is = ap (λ f. of (nth 0 (meanings d.table f))) is ∙ ap of (sym (nth_skipped n d.table parts))

-- so far, what comes to all where the rest is known too
pub record KnownSoFar (d : Design) (x : KnownDesign) (ks : List Known) (rest : Known → Known) (all : Known) : Type 0 where
  pub so_far : Known
  pub knows : Knows d x (so_far ∷ ks)
  pub comes_to : rest so_far ≡ all

-- parameters that are declared together
pub parameter_set : {A E : Type 0} (r : Result A E) (d : Design) (y : KnownDesign) (k : Known) (ks : List Known) (ns : List ℕ) (of parts : Forest Resolved) (s : Static)
    → ns ≡ (meaning_at d 1 parts).numbers → of ≡ parts_at 3 parts → s ≡ never → OnOk r (Knows d y (later_objects ns (indicated_twice d k of) s k ∷ ks))
    → OnOk r (Knows d y (later_objects (meaning_at d 1 parts).numbers (indicated_twice d k (parts_at 3 parts)) never k ∷ ks))
parameter_set r d y k ks ns of parts s numbers indication known set =
    subst (λ t. OnOk r (Knows d y (later_objects (meaning_at d 1 parts).numbers (indicated_twice d k (parts_at 3 parts)) t k ∷ ks))) known
    (subst (λ f. OnOk r (Knows d y (later_objects (meaning_at d 1 parts).numbers (indicated_twice d k f) s k ∷ ks))) indication
    (subst (λ ms. OnOk r (Knows d y (later_objects ms (indicated_twice d k of) s k ∷ ks))) numbers set))

-- one tree more
pub known_more : (d : Design) (x y : KnownDesign) (ks : List Known) (f : Forest Resolved) (n : Resolved) (text : List ℕ) (place : Place) (parts next : Forest Resolved) (all : Known)
    → f ≡ more n text place parts next → KnownSoFar d x ks (parameters_known d f) all
    → ((k : Known) → Knows d x (k ∷ ks) → Knows d y (later_objects (meaning_at d 1 parts).numbers (indicated_twice d k (parts_at 3 parts)) never k ∷ ks))
    → KnownSoFar d y ks (parameters_known d next) all
known_more d x y ks f n text place parts next all is so_far step = record {
  so_far = later_objects (meaning_at d 1 parts).numbers (indicated_twice d so_far.so_far (parts_at 3 parts)) never so_far.so_far;
  knows = step so_far.so_far so_far.knows;
  comes_to = sym (ap (λ g. parameters_known d g so_far.so_far) is) ∙ so_far.comes_to;
}

-- ---- generics

pub same_extends : {A E : Type 0} (r : Result A E) (fs gs : List (Forest IndicatedForm)) → OnOk r (gs ≡ fs) → OnOk r (Extends fs gs)
same_extends r fs gs same = on_ok r (λ is. subst (Extends fs) (sym is) (extends_same fs)) same

pub stands_first : (d : Design) (x : KnownDesign) (fs : List (Forest IndicatedForm)) (xs ys : List Actual) (k : Known) (as' : List TwoActuals) (ks : List Known) → Knows d x (k ∷ ks)
    → x.table.subtypes ≡ fs → ys ≡ xs → AreActuals fs d.table xs as' → Stands d x ys (record { known = k; left = as' }) ks
stands_first d x fs xs ys k as' ks knows same is are = record {
  knows = knows;
  are_left = subst (λ l. AreActuals x.table.subtypes d.table l as') (sym is) (subst (λ gs. AreActuals gs d.table xs as') (sym same) are);
}

-- ---- the inside of an instance of a function

pub inside_known : (d : Design) (y : KnownDesign) (function instance : ℕ) (xs : List MapElement) (text : Forest Resolved) (k : Known) (ks : List Known) (gs ps : Forest Resolved)
    (mark : Option ℕ) (of : TwoSubtypes) → gs ≡ parts_at 2 text → ps ≡ parts_at 4 text → mark ≡ (meaning_at d 5 text).declaration
    → Knows d y (parameters_known d ps (generics_stand d gs (actuals_known d function instance xs k) k) ∷ ks)
    → ((from : Known) → Knows d y (from ∷ ks) → AreIndicated y.table.subtypes of (record { own = at_mark mark from.env; choosing = at_mark mark from.choosing }))
    → IsInside d y of text (inside_of d function instance xs text k) ks
inside_known d y function instance xs text k ks gs ps mark of generics parameters named knows marks =
    let from = inside_of d function instance xs text k in
    let here : Knows d y (from ∷ ks) =
    subst (λ f. Knows d y (parameters_known d f (generics_stand d (parts_at 2 text) (actuals_known d function instance xs k) k) ∷ ks)) parameters
    (subst (λ f. Knows d y (parameters_known d ps (generics_stand d f (actuals_known d function instance xs k) k) ∷ ks)) generics knows) in
    record {
      knows = here;
      result_is = subst (λ m. AreIndicated y.table.subtypes of (record { own = at_mark m from.env; choosing = at_mark m from.choosing })) named (marks from here);
    }

pub inside_some : {E : Type 0} (d : Design) (y : KnownDesign) (function instance : ℕ) (xs : List MapElement) (o : Option (Forest Resolved)) (text : Forest Resolved) (k : Known) (ks : List Known)
    (r : Result TwoSubtypes E) → o ≡ Some text → IfOk r (λ of. IsInside d y of text (inside_of d function instance xs text k) ks)
    → IfOk r (λ of. IsInside d y of (or_nothing o) (inside_of d function instance xs (or_nothing o) k) ks)
inside_some d y function instance xs o text k ks r is inside =
    subst (λ p. IfOk r (λ of. IsInside d y of (or_nothing p) (inside_of d function instance xs (or_nothing p) k) ks)) (sym is) inside

pub inside_none : (d : Design) (y : KnownDesign) (function instance : ℕ) (xs : List MapElement) (o : Option (Forest Resolved)) (of : TwoSubtypes) (k : Known) (ks : List Known) → o ≡ None
    → Knows d y (k ∷ ks) → AreIndicated y.table.subtypes of (record { own = at_mark None k.env; choosing = at_mark None k.choosing })
    → IsInside d y of (or_nothing o) (inside_of d function instance xs (or_nothing o) k) ks
inside_none d y function instance xs o of k ks is knows are =
    subst (λ p. IsInside d y of (or_nothing p) (inside_of d function instance xs (or_nothing p) k) ks) (sym is) (record { knows = knows; result_is = are })

-- ---- instances

pub instance_found : {A E : Type 0} (r : Result A E) (d : Design) (y : KnownDesign) (function instance : ℕ) (xs : List MapElement) (k : Known) (ks : List Known) (text : Forest Resolved)
    (cs : List (ℕ × ℕ)) → text ≡ k.functions function → cs ≡ pairs (d.table.declared function).parameters (d.table.declared instance).parameters
    → (let from = inside_of d function instance xs text k in OnOk r (Knows d y (taken_known cs from (instance_result d instance (meaning_at d 5 text).declaration from k) ∷ ks)))
    → OnOk r (Knows d y (instance_of_function d function instance xs k ∷ ks))
instance_found r d y function instance xs k ks text cs is pairs_are knows =
    let copies = pairs (d.table.declared function).parameters (d.table.declared instance).parameters in
    subst (λ f. let from = inside_of d function instance xs f k in OnOk r (Knows d y (taken_known copies from (instance_result d instance (meaning_at d 5 f).declaration from k) ∷ ks))) is
    (subst (λ c. let from = inside_of d function instance xs text k in OnOk r (Knows d y (taken_known c from (instance_result d instance (meaning_at d 5 text).declaration from k) ∷ ks))) pairs_are
    knows)

pub elements_are : (t : Table) (f : Forest Resolved) (o : Option (Forest Resolved))
    → MatchOption o ((u : Table) → (nth 0 (meanings u f)).elements ≡ []) (λ es. (u : Table) → (nth 0 (meanings u f)).elements ≡ map map_element (meanings u es))
    → map map_element (meanings t (or_nothing o)) ≡ (nth 0 (meanings t f)).elements
elements_are t f None is = sym (is t)
elements_are t f (Some es) is = sym (is t)

pub declared_instance : {A E : Type 0} (r : Result A E) (d : Design) (y : KnownDesign) (n : Resolved) (parts : Forest Resolved) (inner k : Known) (ks : List Known) (function instance : ℕ)
    (o : Option (Forest Resolved)) → function ≡ number_or (meaning_at d 2 parts).declaration → instance ≡ number_or (made n (meaning_at d 1 parts))
    → map map_element (meanings d.table (or_nothing o)) ≡ (meaning_at d 3 parts).elements
    → OnOk r (Knows d y (instance_of_function d function instance (map map_element (meanings d.table (or_nothing o))) k ∷ ks))
    → OnOk r (Knows d y (declared_by FunctionInstance d n parts inner k ∷ ks))
declared_instance r d y n parts inner k ks function instance o is_function is_instance are knows =
    let g = number_or (meaning_at d 2 parts).declaration in
    subst (λ es. OnOk r (Knows d y (instance_of_function d g (number_or (made n (meaning_at d 1 parts))) es k ∷ ks))) are
    (subst (λ i. OnOk r (Knows d y (instance_of_function d g i (map map_element (meanings d.table (or_nothing o))) k ∷ ks))) is_instance
    (subst (λ f. OnOk r (Knows d y (instance_of_function d f instance (map map_element (meanings d.table (or_nothing o))) k ∷ ks))) is_function knows))
