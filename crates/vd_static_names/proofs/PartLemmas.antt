-- Fields, elements and slices.
use Rattle.std.proofs.Common.{◌≡◌, ◌&&◌, ◌∙◌, Bool, Err, List, None, Ok, Option, Some, ap, false, if◌then◌else◌, is_some, refl, subst, sym, true, ℕ}
use Rattle.vd_composites.specs.Composites.{Value}
use Rattle.vd_composites.specs.Parts.{AtSlice}
use Rattle.vd_composites.specs.Stops.{◌>>=◌}
use Rattle.vd_composites.specs.Subtypes.{Arrays, Records, Scalars, Subtype}
use Rattle.vd_composites.specs.declared.ranges.Bounds.{Bounds}
use Rattle.vd_environments.specs.Environments.{Env, Indicated, Make, Signals, Static, or_senseless, sliced_make}
use Rattle.vd_environments.specs.Got.{Got, is_got}
use Rattle.vd_composites.specs.Parts.{Step}
use Rattle.vd_forest.specs.Forest.{Forest}
use Rattle.vd_forest.specs.Store.{at}
use Rattle.vd_value_rules.specs.Indicated.{element_indicated, field_indicated, indicated_in, static_of}
use Rattle.vd_value_rules.specs.declared.forms.IndicatedForm.{IndicatedForm}
use Rattle.vd_value_rules.specs.declared.statics.StaticSort.{StaticSort}
use Rattle.vd_meaning.specs.Names.{Stepping, bounds_of_subtype, element_of_subtype, field_subtype, sliced_bounds, sliced_subtype, to_element, to_field, to_slice}
use Rattle.vd_static_values.specs.Entries.{IsFound}
use Rattle.vd_static_values.specs.Names.{bounds_or_later, has_made_bounds, indicated_by, number_in}
use Rattle.vd_static_values.specs.declared.names.KnownName.{KnownName}
use Rattle.vd_static_values.specs.declared.names.NameSubtype.{NameSubtype}
use Rattle.vd_static_values.specs.declared.names.NameSubtype.TheVariants.{Slice, Stored}
use Rattle.vd_static_names.proofs.AlikeLemmas.{element_make_is, element_of_made, element_there, field_make_is, field_of_made, field_there, name_alike, slice_make_is, slice_of_made, slice_of_slice, slice_there}
use Rattle.vd_static_names.proofs.StepLemmas.{IsPart}
use Rattle.vd_static_names.specs.Parts.{slice_in}
use Rattle.vd_static_names.specs.declared.steps.Part.{Part}
use Rattle.vd_value_rules.specs.Lengths.{or_none}
use Rattle.vd_values.specs.declared.scalar.Scalar.{Scalar}

pub found_or : {A : Type 0} (o : Option A) (g : Got A) → or_senseless o ≡ g → IsFound o g
found_or None g is = ap is_got (sym is)
found_or (Some x) g is = sym is

-- ---- parts with stored subtypes

-- a subtype that is there
there_found : (g : Got Subtype) (m : Make) (has : Bool) → has ≡ is_got g → IsFound (if has then Some (or_none g m).subtype else None) g
there_found (Ok s) m true is = refl
there_found (Ok s) m false is = absurd (cc)
there_found (Err halt) m true is = absurd (cc)
there_found (Err halt) m false is = refl

bounds_behind : (g : Got Subtype) (m : Make) (o : Option Bounds) → IsFound o (bounds_of_subtype (or_none g m).subtype) → IsFound o (g >>= bounds_of_subtype)
bounds_behind (Ok s) m o is = is
bounds_behind (Err halt) m None is = refl
bounds_behind (Err halt) m (Some b) is = absurd (cc)

-- a step to a part that has a subtype and a make of its own
abbrev to_part : (Env → Got Step) → (Env → Static) → (Env → Got (List Signals)) → (Subtype → Got Subtype) → (Make → Make) → Stepping
to_part to known inner subtype make =
    record {
      to = to;
      known = known;
      inner = inner;
      subtype = λ _ s. subtype s;
      make = λ _ m. make m;
      local_slices = λ _. true;
      shape = λ _ _ s. subtype s >>= bounds_of_subtype;
    }

module _ (subtypes : List (Forest IndicatedForm)) (e : Env) (x : KnownName) (part : Part) (number : ℕ) (is_there : Bool)
    (stored : part.subtype ≡ Stored number) (has : part.has_subtype ≡ (x.has_subtype && is_there))
    (shape : x.has_subtype ≡ true → or_senseless part.shape ≡ bounds_of_subtype (indicated_in (at subtypes number)).subtype)
    (no_shape : x.has_subtype ≡ false → part.shape ≡ None) where
  part_is : (to : Env → Got Step) (known : Env → Static) (inner : Env → Got (List Signals)) (of : Subtype → Got Subtype) (made : Make → Make)
      → (let i = indicated_by subtypes x.subtype in indicated_in (at subtypes number) ≡ or_none (of i.subtype) (made i.make))
      → is_there ≡ is_got (of (indicated_by subtypes x.subtype).subtype)
      → (let i = indicated_by subtypes x.subtype in made i.make ≡ (or_none (of i.subtype) (made i.make)).make)
      → (let i = indicated_by subtypes x.subtype in has_made_bounds (made i.make) ≡ true → is_got (of i.subtype) ≡ true)
      → ((m : Make) → has_made_bounds (made m) ≡ true → has_made_bounds m ≡ true)
      → IsPart subtypes e (to_part to known inner of made) x part
  part_is to known inner of made found there make bounds whole =
      let i = indicated_by subtypes x.subtype in
      let is : indicated_by subtypes part.subtype ≡ or_none (of i.subtype) (made i.make) = ap (indicated_by subtypes) stored ∙ found in
      record {
        make = make ∙ sym (ap (λ (j : Indicated). j.make) is);
        subtype = λ _ yes.
            subst (λ (s : Subtype). IsFound (if part.has_subtype then Some s else None) (of i.subtype)) (sym (ap (λ (j : Indicated). j.subtype) is))
            (there_found (of i.subtype) (made i.make) part.has_subtype (has ∙ ap (λ b. b && is_there) yes ∙ there));
        no_subtype = λ no. has ∙ ap (λ b. b && is_there) no;
        shape = λ _ yes whole_bounds _.
            bounds_behind (of i.subtype) (made i.make) part.shape
            (found_or part.shape (bounds_of_subtype (or_none (of i.subtype) (made i.make)).subtype)
            (shape yes ∙ ap (λ (j : Indicated). bounds_of_subtype j.subtype) found));
        no_shape = no_shape;
        made = whole;
        stops = λ _ is_made stops. let there : is_got (of i.subtype) ≡ true = bounds is_made in absurd (cc);
      }

  pub field_part : (n : ℕ) → indicated_in (at subtypes number) ≡ field_indicated n (indicated_by subtypes x.subtype)
      → is_there ≡ is_got (field_subtype n (indicated_by subtypes x.subtype).subtype) → IsPart subtypes e (to_field n) x part
  field_part n found there =
      part_is (to_field n).to (to_field n).known (to_field n).inner (field_subtype n) (Rattle.vd_environments.specs.Environments.field_make n) found there
      (field_make_is n (name_alike subtypes x.subtype)) (field_there n (name_alike subtypes x.subtype)) (field_of_made n)

  pub element_part : (index : Env → Got (Value Scalar)) (kn : Env → Static) (inner : Env → Got (List Signals))
      → indicated_in (at subtypes number) ≡ element_indicated (indicated_by subtypes x.subtype)
      → is_there ≡ is_got (element_of_subtype (indicated_by subtypes x.subtype).subtype) → IsPart subtypes e (to_element index kn inner) x part
  element_part index kn inner found there =
      part_is (to_element index kn inner).to kn inner element_of_subtype Rattle.vd_environments.specs.Environments.element_make found there
      (element_make_is (name_alike subtypes x.subtype)) (element_there (name_alike subtypes x.subtype)) element_of_made

-- ---- slices

range_stops : (range : Got Bounds) (s : Subtype) → ((b : Bounds) → is_got (sliced_subtype b s) ≡ true) → is_got (range >>= λ b. sliced_subtype b s) ≡ false
    → is_got (range >>= λ b. Ok (AtSlice b)) ≡ false
range_stops (Ok b) s there stops = let got : is_got (sliced_subtype b s) ≡ true = there b in absurd (cc)
range_stops (Err halt) s there stops = refl

-- whether a slice has a subtype
slice_found : (b c : Bounds) (k : Static) (s : Subtype) (m : Make)
    → IsFound (if is_got (element_of_subtype s) then Some (or_none (sliced_subtype b s) (sliced_make k m)).subtype else None) (sliced_subtype b s)
slice_found b c k (Scalars s) m = refl
slice_found b c k (Arrays index bounds of) m = refl
slice_found b c k (Records fields) m = refl

slice_slice_found : (b c : Bounds) (k before : Static) (s : Subtype) (m n : Make)
    → IsFound (if is_got (element_of_subtype s) then Some (or_none (sliced_subtype b s) (sliced_make k m)).subtype else None)
    (sliced_subtype b (or_none (sliced_subtype c s) (sliced_make before n)).subtype)
slice_slice_found b c k before (Scalars s) m n = refl
slice_slice_found b c k before (Arrays index bounds of) m n = refl
slice_slice_found b c k before (Records fields) m n = refl

module _ (subtypes : List (Forest IndicatedForm)) (k : StaticSort) where
  name_slice_make : (n : NameSubtype) (r : Option Bounds) → sliced_make (static_of k) (indicated_by subtypes n).make ≡ (indicated_by subtypes (slice_in n r k)).make
  name_slice_make (Stored number) r = slice_make_is (bounds_or_later r) (static_of k) (name_alike subtypes (Stored number))
  name_slice_make (Slice of b before) r =
      slice_of_slice (bounds_or_later b) (bounds_or_later r) (static_of k) (static_of before) (name_alike subtypes (Stored of))

  name_slice_found : (n : NameSubtype) (b : Bounds)
      → IsFound (if is_got (element_of_subtype (indicated_in (at subtypes (number_in n))).subtype) then Some (indicated_by subtypes (slice_in n (Some b) k)).subtype else None)
      (sliced_subtype b (indicated_by subtypes n).subtype)
  name_slice_found (Stored number) b = slice_found b b (static_of k) (indicated_in (at subtypes number)).subtype (indicated_in (at subtypes number)).make
  name_slice_found (Slice of c before) b =
      slice_slice_found b (bounds_or_later c) (static_of (record { is_local = k.is_local; is_global = k.is_global && before.is_global })) (static_of before)
      (indicated_in (at subtypes of)).subtype (indicated_in (at subtypes of)).make (indicated_in (at subtypes of)).make

  subtype_sliced : (n : NameSubtype) (r : Option Bounds) (range : Got Bounds) (has : Bool) → IsFound r range
      → has ≡ (is_some r && is_got (element_of_subtype (indicated_in (at subtypes (number_in n))).subtype))
      → IsFound (if has then Some (indicated_by subtypes (slice_in n r k)).subtype else None) (range >>= λ b. sliced_subtype b (indicated_by subtypes n).subtype)
  subtype_sliced n None (Ok b) has is there = absurd (cc)
  subtype_sliced n None (Err halt) has is there =
      subst (λ h. IsFound (if h then Some (indicated_by subtypes (slice_in n None k)).subtype else None) (Err halt)) (sym there) refl
  subtype_sliced n (Some b) range has is there =
      let s = (indicated_by subtypes n).subtype in
      let t = (indicated_by subtypes (slice_in n (Some b) k)).subtype in
      subst (λ (g : Got Bounds). IsFound (if has then Some t else None) (g >>= λ c. sliced_subtype c s)) (sym is)
      (subst (λ h. IsFound (if h then Some t else None) (sliced_subtype b s)) (sym there) (name_slice_found n b))

number_of_slice : (n : NameSubtype) (r : Option Bounds) (k : StaticSort) → number_in (slice_in n r k) ≡ number_in n
number_of_slice (Stored number) r k = refl
number_of_slice (Slice of b before) r k = refl

pub slice_number : (m n : NameSubtype) (r : Option Bounds) (k : StaticSort) → m ≡ slice_in n r k → number_in m ≡ number_in n
slice_number m n r k is = ap number_in is ∙ number_of_slice n r k

module _ (subtypes : List (Forest IndicatedForm)) (e : Env) (x : KnownName) (part : Part) (r : Option Bounds) (k : StaticSort)
    (range : Env → Got Bounds) (kn : Env → Static) (inner : Env → Got (List Signals))
    (stored : part.subtype ≡ slice_in x.subtype r k)
    (has : part.has_subtype ≡ (x.has_subtype && (is_some r && is_got (element_of_subtype (indicated_in (at subtypes (number_in x.subtype))).subtype))))
    (shape : x.has_subtype ≡ true → (whole own : Got Bounds) → IsFound x.shape whole → IsFound r own → IsFound part.shape (whole >>= λ w. own >>= sliced_bounds w))
    (no_shape : x.has_subtype ≡ false → part.shape ≡ None)
    (known : static_of k ≡ kn e) (found : (kn e).is_local ≡ true → IsFound r (range e)) where
  pub slice_part : IsPart subtypes e (to_slice range kn inner) x part
  slice_part =
      let i = indicated_by subtypes x.subtype in
      let there = is_some r && is_got (element_of_subtype (indicated_in (at subtypes (number_in x.subtype))).subtype) in
      record {
        make = ap (λ s. sliced_make s i.make) (sym known) ∙ name_slice_make subtypes k x.subtype r ∙ sym (ap (λ n. (indicated_by subtypes n).make) stored);
        subtype = λ local yes.
            subst (λ n. IsFound (if part.has_subtype then Some (indicated_by subtypes n).subtype else None) (range e >>= λ b. sliced_subtype b i.subtype)) (sym stored)
            (subtype_sliced subtypes k x.subtype r (range e) part.has_subtype (found local) (has ∙ ap (λ b. b && there) yes));
        no_subtype = λ no. has ∙ ap (λ b. b && there) no;
        shape = λ local yes whole is. shape yes whole (range e) is (found local);
        no_shape = no_shape;
        made = slice_of_made (kn e);
        stops = λ local made stops. range_stops (range e) i.subtype (λ b. slice_there b (kn e) (name_alike subtypes x.subtype) made) stops;
      }
