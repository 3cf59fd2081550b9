-- Subtypes and what they are made of have one shape.
use Rattle.std.proofs.Common.{◌≡◌, ◌&&◌, ◌∷◌, ◌∙◌, List, Option, [], ap, false, refl, suc, sym, true, zero, ℕ}
use Rattle.std.proofs.Math.Bool.{and_assoc}
use Rattle.vd_composites.specs.Subtypes.{Arrays, Records, Scalars, Subtype, Subtypes, and_more, no_more}
use Rattle.vd_composites.specs.declared.ranges.Bounds.{Bounds}
use Rattle.vd_composites.specs.declared.scalars.ScalarSubtype.{ScalarSubtype}
use Rattle.vd_environments.specs.Environments.{Field, Make, Makes, OfElements, OfFields, OfScalar, ScalarMake, Static, and_make, element_make, field_make, no_makes, nth_make, own_bounds, sliced_make}
use Rattle.vd_environments.specs.Got.{is_got}
use Rattle.vd_forest.specs.Forest.{Forest, more, nothing}
use Rattle.vd_forest.specs.Store.{at}
use Rattle.vd_value_rules.specs.Indicated.{element_indicated, field_indicated, fields_in, indicated_in, made_of, nothing_indicated, static_of, texts_in}
use Rattle.vd_value_rules.specs.declared.forms.IndicatedForm.{IndicatedForm}
use Rattle.vd_value_rules.specs.declared.forms.IndicatedForm.TheVariants as form
use Rattle.vd_value_rules.specs.declared.statics.StaticSort.{StaticSort}
use Rattle.vd_meaning.specs.Declarations.{makes_of, subtypes_of}
use Rattle.vd_meaning.specs.Names.{element_of_subtype, field_subtype, nth_subtype, scalars_of, sliced_subtype}
use Rattle.vd_static_values.specs.Names.{bounds_or_later, has_made_bounds, indicated_by, number_in}
use Rattle.vd_static_values.specs.declared.names.NameSubtype.{NameSubtype}
use Rattle.vd_static_values.specs.declared.names.NameSubtype.TheVariants.{Slice, Stored}
use Rattle.vd_value_rules.specs.Lengths.{or_none}

pub data AsMany : Subtypes → Makes → Type 0 where
  none : AsMany no_more no_makes
  one_more : {s : Subtype} {ss : Subtypes} {name : List ℕ} {m : Make} {ms : Makes} → AsMany ss ms → AsMany (and_more s ss) (and_make name m ms)

pub data AreAlike : Subtype → Make → Type 0 where
  scalars : {s : ScalarSubtype} {scalar : ScalarMake} {range : Static} → AreAlike (Scalars s) (OfScalar scalar range)
  arrays : {index : ScalarSubtype} {bounds : Option Bounds} {of : Subtype} {literals : List (List ℕ)} {known : Static} {make : Make}
      → AreAlike (Arrays index bounds of) (OfElements literals known make)
  records : {fields : Subtypes} {makes : Makes} → AsMany fields makes → AreAlike (Records fields) (OfFields makes)

-- ---- which are

fields_alike : (fields : List Field) → AsMany (subtypes_of fields) (makes_of fields)
fields_alike [] = none
fields_alike (field ∷ fields) = one_more (fields_alike fields)

node_alike : (node : IndicatedForm) (texts : List (List ℕ)) (fields : List Field) → AreAlike (made_of node texts fields).subtype (made_of node texts fields).make
node_alike (form.Scalar s is_resolved range) texts fields = scalars
node_alike (form.Unbounded index known) texts fields = arrays
node_alike (form.Bounded index b known) texts fields = arrays
node_alike form.Record texts fields = records (fields_alike fields)
node_alike form.Literal texts fields = scalars

stored_alike : (f : Forest IndicatedForm) → AreAlike (indicated_in f).subtype (indicated_in f).make
stored_alike nothing = scalars
stored_alike (more node text place parts next) = node_alike node (texts_in parts) (fields_in parts)

slice_alike : {s : Subtype} {m : Make} (b : Bounds) (k : Static) → AreAlike s m
    → AreAlike (or_none (sliced_subtype b s) (sliced_make k m)).subtype (or_none (sliced_subtype b s) (sliced_make k m)).make
slice_alike b k scalars = scalars
slice_alike b k arrays = arrays
slice_alike b k (records many) = scalars

pub name_alike : (subtypes : List (Forest IndicatedForm)) (n : NameSubtype) → AreAlike (indicated_by subtypes n).subtype (indicated_by subtypes n).make
name_alike subtypes (Stored number) = stored_alike (at subtypes number)
name_alike subtypes (Slice of b k) = slice_alike (bounds_or_later b) (static_of k) (stored_alike (at subtypes of))

-- ---- elements

pub element_make_is : {s : Subtype} {m : Make} → AreAlike s m → element_make m ≡ (or_none (element_of_subtype s) (element_make m)).make
element_make_is scalars = refl
element_make_is arrays = refl
element_make_is (records many) = refl

pub element_there : {s : Subtype} {m : Make} → AreAlike s m → has_made_bounds (element_make m) ≡ true → is_got (element_of_subtype s) ≡ true
element_there scalars is = absurd (cc)
element_there arrays is = refl
element_there (records many) is = absurd (cc)

pub element_of_made : (m : Make) → has_made_bounds (element_make m) ≡ true → has_made_bounds m ≡ true
element_of_made (OfScalar scalar range) is = absurd (cc)
element_of_made (OfElements literals known make) is = refl
element_of_made (OfFields makes) is = refl

element_of_slice : (b : Bounds) (k : Static) (s : Subtype) (m : Make)
    → element_indicated (or_none (sliced_subtype b s) (sliced_make k m)) ≡ element_indicated (record { subtype = s; make = m })
element_of_slice b k (Scalars s) m = refl
element_of_slice b k (Arrays index bounds of) (OfScalar scalar range) = refl
element_of_slice b k (Arrays index bounds of) (OfElements literals known make) = refl
element_of_slice b k (Arrays index bounds of) (OfFields makes) = refl
element_of_slice b k (Records fields) m = refl

-- a slice has the elements of the whole
pub element_of_name : (subtypes : List (Forest IndicatedForm)) (n : NameSubtype)
    → element_indicated (indicated_by subtypes n) ≡ element_indicated (indicated_in (at subtypes (number_in n)))
element_of_name subtypes (Stored number) = refl
element_of_name subtypes (Slice of b k) =
    element_of_slice (bounds_or_later b) (static_of k) (indicated_in (at subtypes of)).subtype (indicated_in (at subtypes of)).make

elements_of_slice : (b : Bounds) (k : Static) (s : Subtype) (m : Make) → is_got (element_of_subtype (or_none (sliced_subtype b s) (sliced_make k m)).subtype) ≡ is_got (element_of_subtype s)
elements_of_slice b k (Scalars s) m = refl
elements_of_slice b k (Arrays index bounds of) m = refl
elements_of_slice b k (Records fields) m = refl

pub elements_of_name : (subtypes : List (Forest IndicatedForm)) (n : NameSubtype)
    → is_got (element_of_subtype (indicated_by subtypes n).subtype) ≡ is_got (element_of_subtype (indicated_in (at subtypes (number_in n))).subtype)
elements_of_name subtypes (Stored number) = refl
elements_of_name subtypes (Slice of b k) =
    elements_of_slice (bounds_or_later b) (static_of k) (indicated_in (at subtypes of)).subtype (indicated_in (at subtypes of)).make

-- ---- fields

nth_make_is : {ss : Subtypes} {ms : Makes} (n : ℕ) → AsMany ss ms → nth_make n ms ≡ (or_none (nth_subtype n ss) (nth_make n ms)).make
nth_make_is n none = refl
nth_make_is zero (one_more many) = refl
nth_make_is (suc n) (one_more many) = nth_make_is n many

pub field_make_is : {s : Subtype} {m : Make} (n : ℕ) → AreAlike s m → field_make n m ≡ (or_none (field_subtype n s) (field_make n m)).make
field_make_is n scalars = refl
field_make_is n arrays = refl
field_make_is n (records many) = nth_make_is n many

nth_there : {ss : Subtypes} {ms : Makes} (n : ℕ) → AsMany ss ms → has_made_bounds (nth_make n ms) ≡ true → is_got (nth_subtype n ss) ≡ true
nth_there n none is = absurd (cc)
nth_there zero (one_more many) is = refl
nth_there (suc n) (one_more many) is = nth_there n many is

pub field_there : {s : Subtype} {m : Make} (n : ℕ) → AreAlike s m → has_made_bounds (field_make n m) ≡ true → is_got (field_subtype n s) ≡ true
field_there n scalars is = absurd (cc)
field_there n arrays is = absurd (cc)
field_there n (records many) is = nth_there n many is

pub field_of_made : (n : ℕ) (m : Make) → has_made_bounds (field_make n m) ≡ true → has_made_bounds m ≡ true
field_of_made n (OfScalar scalar range) is = absurd (cc)
field_of_made n (OfElements literals known make) is = refl
field_of_made n (OfFields makes) is = refl

-- a slice has no field
field_of_slice : (n : ℕ) (b : Bounds) (k : Static) (s : Subtype) (m : Make)
    → field_indicated n (or_none (sliced_subtype b s) (sliced_make k m)) ≡ nothing_indicated
field_of_slice n b k (Scalars s) m = refl
field_of_slice n b k (Arrays index bounds of) m = refl
field_of_slice n b k (Records fields) m = refl

no_field : (n : ℕ) (b : Bounds) (k : Static) (s : Subtype) (m : Make) → false ≡ is_got (field_subtype n (or_none (sliced_subtype b s) (sliced_make k m)).subtype)
no_field n b k (Scalars s) m = refl
no_field n b k (Arrays index bounds of) m = refl
no_field n b k (Records fields) m = refl

module _ (subtypes : List (Forest IndicatedForm)) (n : ℕ) (name : NameSubtype) (of : ℕ) (bounds : Option Bounds) (known : StaticSort) (is : name ≡ Slice of bounds known) where
  pub slice_has_nothing : nothing_indicated ≡ field_indicated n (indicated_by subtypes name)
  slice_has_nothing =
      sym (field_of_slice n (bounds_or_later bounds) (static_of known) (indicated_in (at subtypes of)).subtype (indicated_in (at subtypes of)).make)
      ∙ ap (λ m. field_indicated n (indicated_by subtypes m)) (sym is)

  pub slice_has_no_field : false ≡ is_got (field_subtype n (indicated_by subtypes name).subtype)
  slice_has_no_field =
      no_field n (bounds_or_later bounds) (static_of known) (indicated_in (at subtypes of)).subtype (indicated_in (at subtypes of)).make
      ∙ ap (λ m. is_got (field_subtype n (indicated_by subtypes m).subtype)) (sym is)

-- ---- slices

pub slice_make_is : {s : Subtype} {m : Make} (b : Bounds) (k : Static) → AreAlike s m → sliced_make k m ≡ (or_none (sliced_subtype b s) (sliced_make k m)).make
slice_make_is b k scalars = refl
slice_make_is b k arrays = refl
slice_make_is b k (records many) = refl

pub slice_there : {s : Subtype} {m : Make} (b : Bounds) (k : Static) → AreAlike s m → has_made_bounds (sliced_make k m) ≡ true → is_got (sliced_subtype b s) ≡ true
slice_there b k scalars is = absurd (cc)
slice_there b k arrays is = refl
slice_there b k (records many) is = absurd (cc)

pub slice_of_made : (k : Static) (m : Make) → has_made_bounds (sliced_make k m) ≡ true → has_made_bounds m ≡ true
slice_of_made k (OfScalar scalar range) is = absurd (cc)
slice_of_made k (OfElements literals known make) is = refl
slice_of_made k (OfFields makes) is = refl

-- known where both are, as a slice of a slice
abbrev pub known_behind : Static → Static → Static
known_behind k before = record { is_local = k.is_local; is_global = k.is_global && before.is_global }

pub slice_of_slice : {s : Subtype} {m : Make} (b c : Bounds) (k before : Static) → AreAlike s m
    → sliced_make k (or_none (sliced_subtype b s) (sliced_make before m)).make ≡ (or_none (sliced_subtype c s) (sliced_make (known_behind k before) m)).make
slice_of_slice b c k before scalars = refl
slice_of_slice b c k before (arrays {literals = literals} {known = known} {make = make}) = λ i.
    OfElements literals (record { is_local = k.is_local; is_global = sym (and_assoc k.is_global before.is_global known.is_global) i }) make
slice_of_slice b c k before (records many) = refl

own_of_slice : {s : Subtype} {m : Make} (b : Bounds) (k : Static) → AreAlike s m → is_got (element_of_subtype s) ≡ true
    → known_behind k (own_bounds m) ≡ own_bounds (or_none (sliced_subtype b s) (sliced_make k m)).make
own_of_slice b k scalars is = absurd (cc)
own_of_slice b k arrays is = refl
own_of_slice b k (records many) is = absurd (cc)

pub bounds_of_slice : (subtypes : List (Forest IndicatedForm)) (of : ℕ) (b : Option Bounds) (k own : StaticSort)
    → is_got (element_of_subtype (indicated_in (at subtypes of)).subtype) ≡ true → static_of own ≡ own_bounds (indicated_in (at subtypes of)).make
    → static_of (record { is_local = k.is_local; is_global = k.is_global && own.is_global }) ≡ own_bounds (indicated_by subtypes (Slice of b k)).make
bounds_of_slice subtypes of b k own array is =
    ap (known_behind (static_of k)) is ∙ own_of_slice (bounds_or_later b) (static_of k) (stored_alike (at subtypes of)) array

-- ---- scalars

no_scalar : (b : Bounds) (k : Static) (s : Subtype) (m : Make) → is_got (scalars_of (or_none (sliced_subtype b s) (sliced_make k m)).subtype) ≡ true
    → nothing_indicated ≡ or_none (sliced_subtype b s) (sliced_make k m)
no_scalar b k (Scalars s) m is = refl
no_scalar b k (Arrays index bounds of) m is = absurd (cc)
no_scalar b k (Records fields) m is = refl

-- a slice is no scalar
pub slice_is_no_scalar : (subtypes : List (Forest IndicatedForm)) (name : NameSubtype) (of : ℕ) (b : Option Bounds) (k : StaticSort) → name ≡ Slice of b k
    → is_got (scalars_of (indicated_by subtypes name).subtype) ≡ true → nothing_indicated ≡ indicated_by subtypes name
slice_is_no_scalar subtypes name of b k is scalar =
    no_scalar (bounds_or_later b) (static_of k) (indicated_in (at subtypes of)).subtype (indicated_in (at subtypes of)).make
    (ap (λ n. is_got (scalars_of (indicated_by subtypes n).subtype)) (sym is) ∙ scalar)
    ∙ ap (indicated_by subtypes) (sym is)
