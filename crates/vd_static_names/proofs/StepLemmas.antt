-- What is known of parts of names.
use Rattle.std.proofs.Common.{◌≡◌, ◌≤◌, ◌&&◌, ◌||◌, ◌⊎◌, ◌∙◌, Bool, Err, List, None, Ok, Option, Some, ap, false, if◌then◌else◌, inl, inr, is_some, length, refl, subst, sym, true, ℕ}
use Rattle.vd_composites.specs.Composites.{Value}
use Rattle.vd_composites.specs.Stops.{◌>>=◌}
use Rattle.vd_composites.specs.Subtypes.{Subtype}
use Rattle.vd_composites.specs.declared.ranges.Bounds.{Bounds}
use Rattle.vd_environments.specs.Environments.{Env, Make, Signals, both, is_static, only_global}
use Rattle.vd_environments.specs.Got.{Got, is_got}
use Rattle.vd_forest.specs.Forest.{Forest}
use Rattle.vd_value_rules.specs.Indicated.{static_of}
use Rattle.vd_value_rules.specs.declared.forms.IndicatedForm.{IndicatedForm}
use Rattle.vd_value_rules.specs.declared.statics.StaticSort.{StaticSort}
use Rattle.vd_meaning.specs.Names.{Named, Stepping, goes_on, part_of_value, shape_behind, shape_of_value, stepped, where_signal}
use Rattle.vd_static_values.specs.Entries.{IsFound}
use Rattle.vd_static_values.specs.Names.{IsName, Stops, has_made_bounds, indicated_by, number_in}
use Rattle.vd_static_values.specs.declared.names.KnownName.{KnownName}
use Rattle.vd_static_names.proofs.StopLemmas.{bind_stops, left_true, right_true, some_prefix, stepped_stops, value_stops_with}
use Rattle.vd_static_names.specs.Parts.{known_part}
use Rattle.vd_static_names.specs.declared.steps.Part.{Part}
use Rattle.vd_values.specs.declared.scalar.Scalar.{Scalar}

abbrev pub subtype_in : List (Forest IndicatedForm) → Part → Option Subtype
subtype_in subtypes part = if part.has_subtype then Some (indicated_by subtypes part.subtype).subtype else None

-- What is known of the subtype and the bounds of a part is right where those of the whole are known.
pub record IsPart (subtypes : List (Forest IndicatedForm)) (e : Env) (s : Stepping) (x : KnownName) (part : Part) : Type 0 where
  pub make : s.make e (indicated_by subtypes x.subtype).make ≡ (indicated_by subtypes part.subtype).make
  pub subtype : s.local_slices e ≡ true → x.has_subtype ≡ true → IsFound (subtype_in subtypes part) (s.subtype e (indicated_by subtypes x.subtype).subtype)
  pub no_subtype : x.has_subtype ≡ false → part.has_subtype ≡ false
  pub shape : s.local_slices e ≡ true → x.has_subtype ≡ true → (whole : Got Bounds) → IsFound x.shape whole
      → IsFound part.shape (s.shape e whole (indicated_by subtypes x.subtype).subtype)
  pub no_shape : x.has_subtype ≡ false → part.shape ≡ None
  pub made : (m : Make) → has_made_bounds (s.make e m) ≡ true → has_made_bounds m ≡ true
  pub stops : s.local_slices e ≡ true → has_made_bounds (s.make e (indicated_by subtypes x.subtype).make) ≡ true
      → is_got (s.subtype e (indicated_by subtypes x.subtype).subtype) ≡ false → is_got (s.to e) ≡ false

-- ---- behind what the whole has

same_found : {A : Type 0} (x y : A) → ◌≡◌ {A = Got A} (Ok x) (Ok y) → x ≡ y
same_found x y is = cc

module _ (s : Stepping) (e : Env) (i : Subtype) where
  subtype_behind : (whole : Got Subtype) (has : Bool) (part : Option Subtype) → IsFound (if has then Some i else None) whole
      → (has ≡ true → IsFound part (s.subtype e i)) → (has ≡ false → part ≡ None) → IsFound part (whole >>= s.subtype e)
  subtype_behind (Ok t) true part is one none = subst (λ u. IsFound part (s.subtype e u)) (sym (same_found t i is)) (one refl)
  subtype_behind (Ok t) false part is one none = absurd (cc)
  subtype_behind (Err halt) true part is one none = absurd (cc)
  subtype_behind (Err halt) false part is one none = subst (λ o. IsFound o (Err halt)) (sym (none refl)) refl

  shape_found : (whole : Got Subtype) (has : Bool) (part : Option Bounds) (bounds : Got Bounds) (value : Env → Got (Value Scalar))
      → IsFound (if has then Some i else None) whole → (has ≡ true → IsFound part (s.shape e bounds i)) → (has ≡ false → part ≡ None)
      → (is_got whole ≡ false → is_got (value e) ≡ false) → IsFound part (shape_behind whole s bounds value e)
  shape_found (Ok t) true part bounds value is one none stops =
      subst (λ u. IsFound part (s.shape e bounds u)) (sym (same_found t i is)) (one refl)
  shape_found (Ok t) false part bounds value is one none stops = absurd (cc)
  shape_found (Err halt) true part bounds value is one none stops = absurd (cc)
  shape_found (Err halt) false part bounds value is one none stops =
      subst (λ o. IsFound o (value e >>= shape_of_value)) (sym (none refl)) (bind_stops (value e) shape_of_value (stops refl))

  why_stops : (whole : Got Subtype) (has : Bool) (p : Named) → IsFound (if has then Some i else None) whole
      → (is_got whole ≡ false → Stops e p) → (is_got (s.subtype e i) ≡ false → is_got (s.to e) ≡ false)
      → is_got (whole >>= s.subtype e) ≡ false → (is_got (s.to e) ≡ false) ⊎ Stops e p
  why_stops (Ok t) true p is one to stops = inl (to (subst (λ u. is_got (s.subtype e u) ≡ false) (same_found t i is) stops))
  why_stops (Ok t) false p is one to stops = absurd (cc)
  why_stops (Err halt) has p is one to stops = inr (one refl)

no_part : (has : Bool) (i : Subtype) → has ≡ false → (if has then Some i else None) ≡ None
no_part true i is = absurd (cc)
no_part false i is = refl

-- ---- signals

whole_is : (prefix : Option (Env → Got Signals)) (goes : Env → Bool) (e : Env) (is_signal is_whole : Bool) → is_some prefix ≡ is_signal → goes e ≡ is_whole
    → where_signal prefix (λ _. false) goes e ≡ (is_signal && is_whole)
whole_is None goes e is_signal is_whole some same = ap (λ b. b && is_whole) some
whole_is (Some prefix) goes e is_signal is_whole some same = same ∙ ap (λ b. b && is_whole) some

-- ---- parts

module _ (subtypes : List (Forest IndicatedForm)) (e : Env) (s : Stepping) (m : Option ℕ) (p : Named) (x : KnownName) (k : StaticSort) (is_local : Bool) (part : Part)
    (is : IsName subtypes e x p) (known : static_of k ≡ s.known e) (local : s.local_slices e ≡ is_local) (within : number_in part.subtype ≤ length subtypes)
    (of : IsPart subtypes e s x part) where
  made_whole : has_made_bounds (s.make e (p.make e)) ≡ true → has_made_bounds (p.make e) ≡ true
  made_whole bounds = of.made (p.make e) bounds

  pub stepped_named : IsName subtypes e (known_part x k is_local part) (stepped s m p)
  stepped_named = record {
    known = λ i. only_global (both (is.known i) (known i));
    value = λ early. absurd (cc);
    within = within;
    make = ap (s.make e) is.make ∙ of.make;
    subtype = λ slices.
        let whole = left_true (p.local_slices e) (s.local_slices e) slices in
        let own = right_true (p.local_slices e) (s.local_slices e) slices in
        subtype_behind s e (indicated_by subtypes x.subtype).subtype (p.subtype e) x.has_subtype (subtype_in subtypes part) (is.subtype whole) (of.subtype own)
        (λ no. no_part part.has_subtype (indicated_by subtypes part.subtype).subtype (of.no_subtype no));
    shape = λ object slices bounds.
        let whole = left_true (p.local_slices e) (s.local_slices e) slices in
        let own = right_true (p.local_slices e) (s.local_slices e) slices in
        shape_found s e (indicated_by subtypes x.subtype).subtype (p.subtype e) x.has_subtype part.shape (p.shape e) (part_of_value p s) (is.subtype whole)
        (λ has. of.shape own has (p.shape e) (is.shape object whole (made_whole bounds)))
        of.no_shape
        (λ stops. value_stops_with s m p e (is.stops object whole (made_whole bounds) stops));
    stops = λ object slices bounds stops.
        let whole = left_true (p.local_slices e) (s.local_slices e) slices in
        let own = right_true (p.local_slices e) (s.local_slices e) slices in
        stepped_stops s m p e
        (why_stops s e (indicated_by subtypes x.subtype).subtype (p.subtype e) x.has_subtype p (is.subtype whole)
        (is.stops object whole (made_whole bounds))
        (of.stops own (subst (λ made. has_made_bounds (s.make e made) ≡ true) is.make bounds))
        stops);
    own_shape = λ object early. absurd (cc);
    is_object = is.is_object;
    local_slices = λ i. is.local_slices i && local i;
    early = λ early. absurd (cc);
    is_mark = refl;
    range = tt;
    callee = refl;
    is_signal = some_prefix s m p e p.prefix ∙ is.is_signal;
    is_whole =
        whole_is p.prefix (goes_on p s) e x.is_signal (x.is_whole && (k.is_local || k.is_global)) is.is_signal
        (λ i. is.is_whole i && is_static (sym known i));
  }
