-- Fields of names.
use Rattle.std.proofs.Common.{◌≡◌, List, Option, ap, false, is_some, refl, suc, sym, zero, ℕ, ◌∙◌}
use Rattle.vd_composites.specs.declared.ranges.Bounds.{Bounds}
use Rattle.vd_environments.specs.Got.{is_got}
use Rattle.vd_forest.proofs.ForestLemmas.{skipped_nothing}
use Rattle.vd_forest.specs.Forest.{Forest, form_of, more, nothing, skipped}
use Rattle.vd_forest.specs.Store.{at}
use Rattle.vd_value_rules.proofs.FieldLemmas.{field_skipped}
use Rattle.vd_value_rules.specs.Indicated.{field_indicated, fields_in, indicated_in}
use Rattle.vd_value_rules.specs.declared.forms.IndicatedForm.{IndicatedForm}
use Rattle.vd_value_rules.specs.declared.forms.IndicatedForm.TheVariants as form
use Rattle.vd_value_rules.specs.declared.statics.StaticSort.{StaticSort}
use Rattle.vd_static_names.specs.Jumps.{field_trees}
use Rattle.vd_meaning.specs.Declarations.{subtypes_of}
use Rattle.vd_meaning.specs.Names.{field_subtype, nth_subtype}
use Rattle.vd_static_values.specs.Names.{indicated_by}
use Rattle.vd_static_values.specs.declared.names.NameSubtype.{NameSubtype}
use Rattle.vd_static_values.specs.declared.names.NameSubtype.TheVariants.{Slice, Stored}
use Rattle.vd_static_names.proofs.AlikeLemmas.{slice_has_no_field, slice_has_nothing}
use Rattle.vd_static_names.specs.Parts.{IsField}

-- ---- whether there is a field

no_tree : (n : ℕ) → is_some (form_of (skipped {F = IndicatedForm} n nothing)) ≡ false
no_tree n = ap (λ (f : Forest IndicatedForm). is_some (form_of f)) (skipped_nothing n)

nth_tree : (n : ℕ) (parts : Forest IndicatedForm) → is_some (form_of (skipped n parts)) ≡ is_got (nth_subtype n (subtypes_of (fields_in parts)))
nth_tree n nothing = no_tree n
nth_tree zero (more node text place parts next) = refl
nth_tree (suc n) (more node text place parts next) = nth_tree n next

field_tree : (n : ℕ) (f : Forest IndicatedForm) → is_some (form_of (skipped n (field_trees f))) ≡ is_got (field_subtype n (indicated_in f).subtype)
field_tree n nothing = no_tree n
field_tree n (more (form.Scalar s is_resolved range) text place parts next) = no_tree n
field_tree n (more (form.Unbounded index known) text place parts next) = no_tree n
field_tree n (more (form.Bounded index b known) text place parts next) = no_tree n
field_tree n (more form.Record text place parts next) = nth_tree n parts
field_tree n (more form.Literal text place parts next) = no_tree n

-- ---- and which one

field_here : (n : ℕ) (f : Forest IndicatedForm) → indicated_in (skipped n (field_trees f)) ≡ field_indicated n (indicated_in f)
field_here n nothing = ap indicated_in (skipped_nothing n)
field_here n (more (form.Scalar s is_resolved range) text place parts next) = ap indicated_in (skipped_nothing n)
field_here n (more (form.Unbounded index known) text place parts next) = ap indicated_in (skipped_nothing n)
field_here n (more (form.Bounded index b known) text place parts next) = ap indicated_in (skipped_nothing n)
field_here n (more form.Record text place parts next) = field_skipped n parts
field_here n (more form.Literal text place parts next) = ap indicated_in (skipped_nothing n)

module _ (store : List (Forest IndicatedForm)) (n : ℕ) (name : NameSubtype) where
  pub field_stored : (of number : ℕ) → name ≡ Stored of → at store number ≡ skipped n (field_trees (at store of)) → IsField store n name number
  field_stored of number stored is = record {
    is = ap indicated_in is ∙ field_here n (at store of) ∙ ap (λ s. field_indicated n (indicated_by store s)) (sym stored);
    there =
        ap (λ (f : Forest IndicatedForm). is_some (form_of f)) is ∙ field_tree n (at store of)
        ∙ ap (λ s. is_got (field_subtype n (indicated_by store s).subtype)) (sym stored);
  }

  pub no_field : (of : ℕ) (bounds : Option Bounds) (known : StaticSort) → name ≡ Slice of bounds known → IsField store n name 0
  no_field of bounds known is = record {
    is = slice_has_nothing store n name of bounds known is;
    there = slice_has_no_field store n name of bounds known is;
  }
