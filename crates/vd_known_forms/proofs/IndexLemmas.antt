-- Indexes of array types in a store that grows. No name has a dash, so that a caller can name each in `#[tactic(auto, using(..))]`.
use Rattle.std.proofs.Common.{◌≡◌, List, ap, arith, subst, ℕ, ◌∙◌}
use Rattle.vd_environments.specs.Environments.{Env, Indicated, Static}
use Rattle.vd_forest.specs.Forest.{Forest}
use Rattle.vd_forest.specs.Store.{Extends, at}
use Rattle.vd_value_rules.specs.Indicated.{indicated_in, static_of, texts_in}
use Rattle.vd_value_rules.specs.declared.forms.IndicatedForm.{IndicatedForm}
use Rattle.vd_value_rules.specs.Made.{Indicates, indexed_by, ranging}
use Rattle.vd_known_designs.proofs.KnownLemmas.{indicates_grown}
use Rattle.vd_known_forms.specs.Arrays.{IsIndex, IsIndexWithin, array_by}
use Rattle.vd_known_forms.specs.declared.indexes.ArrayIndex.{ArrayIndex}
use Rattle.vd_known_forms.specs.declared.indexes.Index.{Index}
use Rattle.vd_known_forms.specs.declared.indexes.Index.TheVariants.{OfAnyBounds, WithRange}
use Rattle.vd_meaning.specs.Facets.{Meaning}
use Rattle.vd_value_rules.specs.Knowledge.{array_defined, array_or_later}

pub index_kept : (fs gs : List (Forest IndicatedForm)) (x : Index) (known : Static) (element : Indicated) → Extends fs gs → IsIndexWithin fs x
    → array_by gs x known element ≡ array_by fs x known element
index_kept fs gs (OfAnyBounds n) known element grown within =
    ap (λ f. array_or_later (indexed_by (indicated_in f) element) known element) (grown.keeps n within)
index_kept fs gs (WithRange range n) known element grown within =
    ap (λ f. array_or_later (ranging range (texts_in f) known element) known element) (grown.keeps n within)

pub index_within : (fs gs : List (Forest IndicatedForm)) (x : Index) → Extends fs gs → IsIndexWithin fs x → IsIndexWithin gs x
index_within fs gs (OfAnyBounds n) grown within = omega (arith, within, grown.grows)
index_within fs gs (WithRange range n) grown within = omega (arith, within, grown.grows)

-- the array type that was made over an index, in a store that grows before and behind that
pub array_made : (fs between made now : List (Forest IndicatedForm)) (x : ArrayIndex) (m : Meaning) (e : Env) (element number : ℕ) (i : Indicated)
    → Extends fs between → Extends made now → IsIndexWithin fs x.index → IsIndex fs x m e → Indicates between element i
    → Indicates made number (array_by between x.index (static_of x.known) (indicated_in (at between element))) → Indicates now number (array_defined m e i)
array_made fs between made now x m e element number i before after within is of_element by_index =
    indicates_grown made now number (array_defined m e i) after
    (subst (Indicates made number)
    (index_kept fs between x.index (static_of x.known) (indicated_in (at between element)) before within
    ∙ ap (array_by fs x.index (static_of x.known)) of_element.is ∙ is i)
    by_index)
