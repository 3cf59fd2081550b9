-- What the subtypes of names have.
use Rattle.std.proofs.Common.{◌≡◌, ◌∙◌, Bool, List, None, Option, Some, ap, false, refl, sym}
use Rattle.vd_composites.specs.Subtypes.{Arrays, Records, Scalars, Subtype}
use Rattle.vd_composites.specs.declared.ranges.Bounds.{Bounds}
use Rattle.vd_composites.specs.declared.scalars.ScalarSubtype.{ScalarSubtype}
use Rattle.vd_environments.specs.Environments.{Make, Static, or_senseless, sliced_make}
use Rattle.vd_forest.specs.Forest.{Forest}
use Rattle.vd_forest.specs.Store.{at}
use Rattle.vd_value_rules.specs.Indicated.{indicated_in, static_of}
use Rattle.vd_value_rules.specs.declared.forms.IndicatedForm.{IndicatedForm}
use Rattle.vd_meaning.specs.Names.{scalars_of, sliced_subtype}
use Rattle.vd_known_lengths.specs.Extents.{values_taken}
use Rattle.vd_static_values.specs.Names.{bounds_or_later, indicated_by, number_in}
use Rattle.vd_static_values.specs.declared.names.NameSubtype.{NameSubtype}
use Rattle.vd_static_values.specs.declared.names.NameSubtype.TheVariants.{Slice, Stored}
use Rattle.vd_static_names.proofs.AlikeLemmas.{AreAlike, arrays, name_alike, records, scalars}
use Rattle.vd_value_rules.specs.Choices.{is_array, range_taken, taken_by_elements}
use Rattle.vd_value_rules.specs.Lengths.{or_none}

array_of_slice : (b : Bounds) (k : Static) (s : Subtype) (m : Make) → is_array (or_none (sliced_subtype b s) (sliced_make k m)).subtype ≡ is_array s
array_of_slice b k (Scalars s) m = refl
array_of_slice b k (Arrays index bounds of) m = refl
array_of_slice b k (Records fields) m = refl

-- a slice is of arrays where the whole is
pub array_by_number : (subtypes : List (Forest IndicatedForm)) (n : NameSubtype)
    → is_array (indicated_by subtypes n).subtype ≡ is_array (indicated_in (at subtypes (number_in n))).subtype
array_by_number subtypes (Stored number) = refl
array_by_number subtypes (Slice of b k) =
    array_of_slice (bounds_or_later b) (static_of k) (indicated_in (at subtypes of)).subtype (indicated_in (at subtypes of)).make

-- ---- the values that choices of what is no array must take

no_array_taken : {s : Subtype} {m : Make} (o : Option ScalarSubtype) → AreAlike s m → is_array s ≡ false → or_senseless o ≡ scalars_of s
    → taken_by_elements (record { subtype = s; make = m }) ≡ values_taken o false
no_array_taken None scalars other is = absurd (cc)
no_array_taken (Some x) (scalars {s = s}) other is = let e : s ≡ x = cc in ap (range_taken false) e
no_array_taken o arrays other is = absurd (cc)
no_array_taken None (records many) other is = refl
no_array_taken (Some x) (records many) other is = absurd (cc)

pub elements_of_other : (subtypes : List (Forest IndicatedForm)) (n : NameSubtype) (o : Option ScalarSubtype) (b : Bool)
    → b ≡ is_array (indicated_by subtypes n).subtype → b ≡ false → or_senseless o ≡ scalars_of (indicated_by subtypes n).subtype
    → taken_by_elements (indicated_by subtypes n) ≡ values_taken o false
elements_of_other subtypes n o b is other scalar = no_array_taken o (name_alike subtypes n) (sym is ∙ other) scalar
