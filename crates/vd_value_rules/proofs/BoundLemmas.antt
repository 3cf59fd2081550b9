-- The bounds of trees, from those of the trees before them.
use Rattle.std.proofs.Common.{◌≡◌, ◌<◌, ◌≤◌, ℕ, List, [], ◌∷◌, ◌++◌, ap, arith, inl, inr, length, length-append, slice_index_or, subst, sym, ◌∙◌}
use Rattle.std.proofs.lemmas.Bool.{cases_lt}
use Rattle.std.proofs.lemmas.List.{get_or_append_left, get_or_push}
use Rattle.vd_bytes.specs.declared.places.Place.{Place}
use Rattle.vd_environments.specs.Environments.{all_bounds, both, bounds_of_fields}
use Rattle.vd_forest.specs.Forest.{Forest, more}
use Rattle.vd_forest.specs.Store.{Extends, at}
use Rattle.vd_value_rules.specs.TreeBounds.{IsBoundsOf, IsTableOf, nothing_known}
use Rattle.vd_value_rules.specs.Indicated.{fields_in, indicated_in, made_of, static_of, texts_in}
use Rattle.vd_value_rules.specs.declared.bounds.TreeBounds.{TreeBounds}
use Rattle.vd_value_rules.specs.declared.forms.IndicatedForm.{IndicatedForm}
use Rattle.vd_value_rules.specs.declared.statics.StaticSort.{StaticSort}
use Rattle.vd_meaning.specs.Declarations.{makes_of}

-- a first tree before others
pub bounds_of_more : (whole : Forest IndicatedForm) (form : IndicatedForm) (text : List ℕ) (place : Place) (parts next : Forest IndicatedForm) (first all : StaticSort) (y : TreeBounds)
    → whole ≡ more form text place parts next → IsBoundsOf y next
    → static_of first ≡ all_bounds (made_of form (texts_in parts) (fields_in parts)).make
    → static_of all ≡ both (static_of first) (static_of y.all)
    → IsBoundsOf (record { first = first; all = all }) whole
bounds_of_more whole form text place parts next first all y opened rest made joined = record {
  first = made ∙ ap (λ f. all_bounds (indicated_in f).make) (sym opened);
  all =
      joined ∙ ap (λ s. both s (static_of y.all)) made
      ∙ ap (both (all_bounds (made_of form (texts_in parts) (fields_in parts)).make)) rest.all
      ∙ ap (λ f. bounds_of_fields (makes_of (fields_in f))) (sym opened);
}

-- one number more
pub table_more : (table : List TreeBounds) (x : TreeBounds) (forests : List (Forest IndicatedForm)) (last : ℕ) → IsTableOf table forests
    → last ≡ length table → last ≤ length forests → IsBoundsOf x (at forests last) → IsTableOf (table ++ x ∷ []) forests
table_more table x forests last known end within is = record {
  within = omega (arith, known.within, length-append table (x ∷ []));
  are = λ number h. elim (cases_lt number last) [
    | inl low ↦
        let inside : number < length table = omega (arith, low, end) in
        subst (λ y. IsBoundsOf y (at forests number)) (sym (get_or_append_left table (x ∷ []) nothing_known number inside)) (known.are number inside)
    | inr high ↦
        let same : number ≡ last = omega (arith, length-append table (x ∷ []), h, high, end) in
        subst (λ n. IsBoundsOf (slice_index_or (table ++ x ∷ []) n nothing_known) (at forests n)) (sym same)
        (subst (λ y. IsBoundsOf y (at forests last)) (sym (get_or_push table x nothing_known last (sym end))) is)
  ];
}

-- a store that grows keeps its table
pub table_kept : (table : List TreeBounds) (fs gs : List (Forest IndicatedForm)) → Extends fs gs → IsTableOf table fs → IsTableOf table gs
table_kept table fs gs grown known = record {
  within = omega (arith, grown.grows, known.within);
  are = λ number within.
      let old : number ≤ length fs = omega (arith, known.within) in
      subst (IsBoundsOf (slice_index_or table number nothing_known)) (sym (grown.keeps number old)) (known.are number within);
}
