-- Subtypes as they are inside a process or a function.
use Rattle.std.proofs.Common.{◌≡◌, ◌≤◌, List, [], ◌∷◌, ap, arith, length, map, None, Option, Some, refl, slice_index_or, subst, sym, ℕ, ◌∙◌}
use Rattle.vd_bytes.specs.declared.places.Place.{Place}
use Rattle.vd_composites.specs.Subtypes.{Records, and_more}
use Rattle.vd_composites.specs.declared.ranges.Bounds.{Bounds}
use Rattle.vd_composites.specs.declared.scalars.ScalarSubtype.{ScalarSubtype}
use Rattle.vd_environments.specs.Environments.{Field, Indicated, OfFields, all_made_inside, and_make, made_inside}
use Rattle.vd_forest.specs.Forest.{Forest, more}
use Rattle.vd_forest.specs.Store.{Extends, Holds, at}
use Rattle.vd_value_rules.specs.Indicated.{all_but_first, array_indicated, fields_in, first_indicated, made_of, static_of, texts_in}
use Rattle.vd_value_rules.specs.declared.forms.IndicatedForm.{IndicatedForm}
use Rattle.vd_value_rules.specs.declared.forms.IndicatedForm.TheVariants as form
use Rattle.vd_value_rules.specs.declared.statics.StaticSort.{StaticSort}
use Rattle.vd_value_rules.specs.Inside.{AreInside, IsInside, field_inside, form_inside, inside_of, sort_inside}
use Rattle.vd_meaning.specs.Declarations.{makes_of, subtypes_of}

-- ---- fields

first_inside : (fields : List Field) → first_indicated (map field_inside fields) ≡ inside_of (first_indicated fields)
first_inside [] = refl
first_inside (field ∷ fields) = refl

subtypes_inside : (fields : List Field) → subtypes_of (map field_inside fields) ≡ subtypes_of fields
subtypes_inside [] = refl
subtypes_inside (field ∷ fields) = ap (and_more field.indicated.subtype) (subtypes_inside fields)

makes_inside : (fields : List Field) → makes_of (map field_inside fields) ≡ all_made_inside (makes_of fields)
makes_inside [] = refl
makes_inside (field ∷ fields) = ap (and_make field.name (made_inside field.indicated.make)) (makes_inside fields)

-- ---- nodes

abbrev made_array : ScalarSubtype → Option Bounds → StaticSort → List (List ℕ) → Indicated → Indicated
made_array index bounds known texts element = array_indicated index bounds (static_of (sort_inside known)) (all_but_first texts) element

pub made_of_inside : (node : IndicatedForm) (texts : List (List ℕ)) (fields : List Field)
    → made_of (form_inside node) texts (map field_inside fields) ≡ inside_of (made_of node texts fields)
made_of_inside (form.Scalar s is_resolved range) texts fields = refl
made_of_inside (form.Unbounded index known) texts fields =
    ap (made_array index None known texts) (first_inside fields)
made_of_inside (form.Bounded index b known) texts fields =
    ap (made_array index (Some b) known texts) (first_inside fields)
made_of_inside form.Record texts fields = λ k. record {
  subtype = Records (subtypes_inside fields k);
  make = OfFields (makes_inside fields k);
}
made_of_inside form.Literal texts fields = refl

-- ---- trees

abbrev field_of : List ℕ → Indicated → Field
field_of text i = record { name = text; indicated = i }

-- a tree that is made again
pub inside_added : (old new : List (Forest IndicatedForm)) (trees : Forest IndicatedForm) (number a b : ℕ) (node : IndicatedForm) (text : List ℕ) (place : Place) (parts next : Forest IndicatedForm)
    → trees ≡ more node text place parts next → IsInside old a parts → IsInside old b next
    → Holds new number (more (form_inside node) text place (at old a) (at old b)) → IsInside new number trees
inside_added old new trees number a b node text place parts next opened first rest added = record {
  within = added.within;
  texts = ap texts_in added.is ∙ ap (λ ts. text ∷ ts) rest.texts ∙ ap texts_in (sym opened);
  fields =
      ap fields_in added.is
      ∙ ap (λ ts. field_of text (made_of (form_inside node) ts (fields_in (at old a))) ∷ fields_in (at old b)) first.texts
      ∙ ap (λ fs. field_of text (made_of (form_inside node) (texts_in parts) fs) ∷ fields_in (at old b)) first.fields
      ∙ ap (λ i. field_of text i ∷ fields_in (at old b)) (made_of_inside node (texts_in parts) (fields_in parts))
      ∙ ap (λ fs. field_of text (inside_of (made_of node (texts_in parts) (fields_in parts))) ∷ fs) rest.fields
      ∙ ap (λ f. map field_inside (fields_in f)) (sym opened);
}

-- one that is the same
pub inside_same : (store : List (Forest IndicatedForm)) (number a b : ℕ) (node : IndicatedForm) (text : List ℕ) (place : Place)
    → number ≤ length store → at store number ≡ more node text place (at store a) (at store b)
    → IsInside store a (at store a) → IsInside store b (at store b) → form_inside node ≡ node → IsInside store number (at store number)
inside_same store number a b node text place within opened first rest same =
    inside_added store store (at store number) number a b node text place (at store a) (at store b) opened first rest
    (record { within = within; is = opened ∙ ap (λ n. more n text place (at store a) (at store b)) (sym same) })

-- ---- tables

pub inside_kept : (fs gs : List (Forest IndicatedForm)) (number : ℕ) (trees : Forest IndicatedForm) → Extends fs gs → IsInside fs number trees → IsInside gs number trees
inside_kept fs gs number trees grown is = record {
  within = omega (arith, grown.grows, is.within);
  texts = ap texts_in (grown.keeps number is.within) ∙ is.texts;
  fields = ap fields_in (grown.keeps number is.within) ∙ is.fields;
}

pub table_kept : (table : List ℕ) (fs gs : List (Forest IndicatedForm)) → Extends fs gs → AreInside table fs → AreInside table gs
table_kept table fs gs grown known = record {
  within = omega (arith, grown.grows, known.within);
  are = λ number within.
      let old : number ≤ length fs = omega (arith, known.within) in
      subst (IsInside gs (slice_index_or table number 0)) (sym (grown.keeps number old))
      (inside_kept fs gs (slice_index_or table number 0) (at fs number) grown (known.are number within));
}
