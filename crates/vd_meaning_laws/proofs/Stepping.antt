-- Parts of objects, attributes and conversions with other numbers.
use Rattle.std.proofs.Common.{◌≡◌, ℕ, Bool, true, false, Option, Some, None, refl, ◌∙◌}
use Rattle.std.specs.Prelude.{◌&&◌, ◌||◌, if◌then◌else◌, Ok, Err, is_some, [], ◌∷◌}
use Rattle.vd_values.specs.declared.scalar.Scalar.{Scalar}
use Rattle.vd_composites.specs.declared.ranges.Bounds.{Bounds}
use Rattle.vd_composites.specs.Stops.{◌>>=◌}
use Rattle.vd_composites.specs.Composites.{Value}
use Rattle.vd_composites.specs.Parts.{Step, reached, part}
use Rattle.vd_composites.specs.Subtypes.{Subtype, Scalars, Arrays, Records}
use Rattle.vd_operators.specs.declared.attributes.Side.{Side}
use Rattle.vd_environments.specs.Got.{Got, got, senseless, is_got}
use Rattle.vd_environments.specs.Environments.{Signals, read, never, both, only_global, is_static, own_bounds, Env, Place, further}
use Rattle.vd_meaning.specs.Names.{Named, Stepping, part_value, shape_behind, shape_of_value, where_signal, goes_on, part_signals, part_of_value, part_prefix, part_place, stepped, no_name, Attribute, BoundAt, LengthOf, RangeOf, EventOf, OfType, NoAttribute, attributed, bound_value, bound_of_mark, bound_of_array, length_value, range_value, event_value, bounds_known, name_bounds, attribute_read, prefix_read, unless_out, unless_stopped, and_read, scalar_type, name_read}
use Rattle.vd_meaning_laws.specs.Agreement.{Link, IsApart, through, Keeps, Alike, number_in}
use Rattle.vd_meaning_laws.specs.Renumbering.{AlikeOption, place_in, AlikeName, AlikeStepping}
use Rattle.vd_meaning_laws.proofs.Naming.{no_name_alike, fresh_alike}

module _ (l : Link) (numbers : IsApart l) where
  -- ---- parts

  value_alike : (x y : Option (Env → Got Signals)) → AlikeOption l x y → (f f' : Env → Got Signals) (v v' : Env → Got (Value Scalar)) → Alike l f f' → Alike l v v'
      → Alike l (part_value x f v) (part_value y f' v')
  value_alike None None h f f' v v' a b = b
  value_alike (Some x) (Some y) h f f' v v' a b = λ e k i. a e k i >>= read e.view
  value_alike _ _ h f f' v v' a b = absurd h

  where_alike : {A : Type 0} (x y : Option (Env → Got Signals)) → AlikeOption l x y → (f f' g g' : Env → A) → Alike l f f' → Alike l g g' → Alike l (where_signal x f g) (where_signal y f' g')
  where_alike None None h f f' g g' a b = a
  where_alike (Some x) (Some y) h f f' g g' a b = b
  where_alike _ _ h f f' g g' a b = absurd h

  there : (g : Got (Value Scalar)) (p : Place) → (g >>= λ v. Ok (place_in l p)) ≡ ((g >>= λ v. Ok p) >>= λ x. Ok (place_in l x))
  there (Ok v) p = refl
  there (Err s) p = refl

  placed_by : (p : Place) (e : Env) (g : Got Step)
      → (g >>= λ to. part_place e (further to (place_in l p))) ≡ ((g >>= λ to. part_place (through l e) (further to p)) >>= λ x. Ok (place_in l x))
  placed_by p e (Err s) = refl
  placed_by p e (Ok to) = there (got (reached (further to p).steps (e.denotes (l.number p.object)).value)) (further to p)

  placed_at : (g : Got Place) (e : Env) (h : Got Step)
      → ((g >>= λ x. Ok (place_in l x)) >>= λ at. h >>= λ to. part_place e (further to at))
      ≡ ((g >>= λ at. h >>= λ to. part_place (through l e) (further to at)) >>= λ x. Ok (place_in l x))
  placed_at (Err s) e h = refl
  placed_at (Ok p) e h = placed_by p e h

  module _ (s s' : Stepping) (a : AlikeStepping l s s') (p q : Named) (h : AlikeName l p q) where
    signals_alike : Alike l (part_signals p s) (part_signals q s')
    signals_alike e k = λ i. h.signals e k i >>= λ v. a.to e k i >>= λ to. got (part to v)

    of_value_alike : Alike l (part_of_value p s) (part_of_value q s')
    of_value_alike e k = λ i. h.value e k i >>= λ v. a.to e k i >>= λ to. got (part to v)

    goes_alike : Alike l (goes_on p s) (goes_on q s')
    goes_alike e k = λ i. h.is_whole e k i && is_static (a.known e k i)

    shape_by : (g : Got Subtype) (whole : Got Bounds) (e : Env) → Keeps l e → shape_behind g s' whole (part_of_value q s') e ≡ shape_behind g s whole (part_of_value p s) (through l e)
    shape_by (Ok r) whole e k = λ i. a.shape e k i whole r
    shape_by (Err halt) whole e k = λ i. of_value_alike e k i >>= shape_of_value

    prefix_alike : (x y : Option (Env → Got Signals)) → AlikeOption l x y → AlikeOption l (part_prefix p s x) (part_prefix q s' y)
    prefix_alike None None x = tt
    prefix_alike (Some f) (Some g) x = λ e k i. x e k i >>= λ v. if goes_alike e k i then (a.to e k i >>= λ to. got (part to v)) else Ok v
    prefix_alike _ _ x = absurd x

    pub stepped_alike : (m : Option ℕ) → AlikeName l (stepped s m p) (stepped s' (number_in l m) q)
    stepped_alike m =
        record {
          value = value_alike p.prefix q.prefix h.prefix (part_signals p s) (part_signals q s') (part_of_value p s) (part_of_value q s') signals_alike of_value_alike;
          place = λ e k. (λ i. h.place e k i >>= λ at. a.to e k i >>= λ to. part_place e (further to at)) ∙ placed_at (p.place (through l e)) e (s.to (through l e));
          signals = where_alike p.prefix q.prefix h.prefix (λ _. senseless) (λ _. senseless) (part_signals p s) (part_signals q s') (λ e k. refl) signals_alike;
          range = tt;
          shape = λ e k. (λ i. shape_behind (h.subtype e k i) s' (h.shape e k i) (part_of_value q s') e) ∙ shape_by (p.subtype (through l e)) (p.shape (through l e)) e k;
          subtype = λ e k i. h.subtype e k i >>= a.subtype e k i;
          make = λ e k i. a.make e k i (h.make e k i);
          is_object = h.is_object;
          local_slices = λ e k i. h.local_slices e k i && a.local_slices e k i;
          is_mark = refl;
          mark = refl;
          callee = refl;
          known = λ e k i. only_global (both (h.known e k i) (a.known e k i));
          prefix = prefix_alike p.prefix q.prefix h.prefix;
          is_whole = where_alike p.prefix q.prefix h.prefix (λ _. false) (λ _. false) (goes_on p s) (goes_on q s') (λ e k. refl) goes_alike;
          inner = λ e k i. and_read (h.inner e k i) (a.inner e k i);
        }

  -- ---- readings

  pub type_same : (m : Option ℕ) (e : Env) → scalar_type (number_in l m) e ≡ scalar_type m (through l e)
  type_same None e = refl
  type_same (Some d) e = refl

  prefix_read_alike : (x y : Option (Env → Got Signals)) → AlikeOption l x y → Alike l (prefix_read x) (prefix_read y)
  prefix_read_alike None None h e k = refl
  prefix_read_alike (Some f) (Some g) h e k = λ i. h e k i >>= λ s. Ok (s ∷ [])
  prefix_read_alike _ _ h e k = absurd h

  pub name_read_alike : (p q : Named) → AlikeName l p q → Alike l (name_read p) (name_read q)
  name_read_alike p q h e k = λ i. and_read (prefix_read_alike p.prefix q.prefix h.prefix e k i) (h.inner e k i)

  attribute_read_alike : (b : Bool) (p q : Named) → AlikeName l p q → Alike l (attribute_read b p) (attribute_read b q)
  attribute_read_alike b p q h e k =
      λ i. and_read (prefix_read_alike p.prefix q.prefix h.prefix e k i >>= λ xs. Ok (if b then xs else unless_out xs)) (h.inner e k i)

  pub some_same : {A : Type 0} (x y : Option (Env → A)) → AlikeOption l x y → is_some y ≡ is_some x
  some_same None None h = refl
  some_same (Some f) (Some g) h = refl
  some_same _ _ h = absurd h

  -- ---- attributes: they look at the bounds of a name alone

  abbrev bounded : Got Bounds → Named
  bounded b = record no_name { shape = λ _. b }

  mark_bound_by : (side : Side) (m : Option ℕ) (e : Env) (b : Got Bounds) (s : Subtype)
      → bound_of_mark side (number_in l m) e (bounded b) s ≡ bound_of_mark side m (through l e) (bounded b) s
  mark_bound_by side None e b (Scalars s) = refl
  mark_bound_by side None e b (Arrays index bounds element) = refl
  mark_bound_by side None e b (Records fields) = refl
  mark_bound_by side (Some d) e b (Scalars s) = refl
  mark_bound_by side (Some d) e b (Arrays index bounds element) = refl
  mark_bound_by side (Some d) e b (Records fields) = refl

  array_bound_by : (side : Side) (m : Option ℕ) (e : Env) (b : Got Bounds) → bound_of_array side (number_in l m) e (bounded b) ≡ bound_of_array side m (through l e) (bounded b)
  array_bound_by side None e b = refl
  array_bound_by side (Some d) e b = refl

  range_by : (back : Bool) (m : Option ℕ) (e : Env) (b : Got Bounds) → range_value back (number_in l m) (bounded b) e ≡ range_value back m (bounded b) (through l e)
  range_by back None e b = refl
  range_by back (Some d) e b = refl

  -- a mark's bound hangs on its subtype, and of an array on its bounds
  mark_bound_of : (side : Side) (m : Option ℕ) (e : Env) (p : Named) (s : Subtype) → bound_of_mark side m e p s ≡ bound_of_mark side m e (bounded (p.shape e)) s
  mark_bound_of side m e p (Scalars s) = refl
  mark_bound_of side m e p (Arrays index bounds element) = refl
  mark_bound_of side m e p (Records fields) = refl

  pub name_bounds_alike : (p q : Named) → AlikeName l p q → Alike l (name_bounds p) (name_bounds q)
  name_bounds_alike p q h e k =
      λ i. record (own_bounds (h.make e k i)) { is_local = (own_bounds (h.make e k i)).is_local && h.local_slices e k i }

  module _ (p q : Named) (h : AlikeName l p q) where
    mark_bound_alike : (side : Side) (m : Option ℕ) (s : Subtype) (e : Env) → Keeps l e → bound_of_mark side (number_in l m) e q s ≡ bound_of_mark side m (through l e) p s
    mark_bound_alike side m s e k =
        mark_bound_of side (number_in l m) e q s ∙ (λ i. bound_of_mark side (number_in l m) e (bounded (h.shape e k i)) s) ∙ mark_bound_by side m e (p.shape (through l e)) s
        ∙ (λ i. Rattle.std.proofs.Common.sym (mark_bound_of side m (through l e) p s) i)

    array_bound_alike : (side : Side) (m : Option ℕ) (e : Env) → Keeps l e → bound_of_array side (number_in l m) e q ≡ bound_of_array side m (through l e) p
    array_bound_alike side m e k = (λ i. bound_of_array side (number_in l m) e (bounded (h.shape e k i))) ∙ array_bound_by side m e (p.shape (through l e))

    bound_alike : (side : Side) (m : Option ℕ) → Alike l (bound_value side m p) (bound_value side (number_in l m) q)
    bound_alike side m e k =
        λ i. if h.is_mark i then (h.subtype e k i >>= λ s. mark_bound_alike side m s e k i) else array_bound_alike side m e k i

    length_alike : Alike l (length_value p) (length_value q)
    length_alike e k = λ i. length_value (bounded (h.shape e k i)) e

    range_alike : (back : Bool) (m : Option ℕ) → Alike l (range_value back m p) (range_value back (number_in l m) q)
    range_alike back m e k = (λ i. range_value back (number_in l m) (bounded (h.shape e k i)) e) ∙ range_by back m e (p.shape (through l e))

    event_alike : Alike l (event_value p) (event_value q)
    event_alike e k = λ i. event_value (record no_name { signals = λ _. h.signals e k i }) e

    bounds_alike : Alike l (bounds_known p) (bounds_known q)
    bounds_alike e k =
        λ i. if h.is_object i then name_bounds_alike p q h e k i
        else record { is_local = (h.known e k i).is_local; is_global = (h.known e k i).is_local && (h.known e k i).is_global }

    pub attributed_alike : (a : Attribute) (m : Option ℕ) → AlikeName l (attributed a m p) (attributed a (number_in l m) q)
    attributed_alike (BoundAt side) m =
        fresh_alike l numbers _ _ m _ _ _ _ (bound_alike side m) bounds_alike (attribute_read_alike false p q h)
    attributed_alike LengthOf m = fresh_alike l numbers _ _ m _ _ _ _ length_alike bounds_alike (attribute_read_alike false p q h)
    attributed_alike (RangeOf back) m =
        record {
          value = λ e k. refl;
          place = λ e k. refl;
          signals = λ e k. refl;
          range = range_alike back m;
          shape = λ e k. refl;
          subtype = λ e k. refl;
          make = λ e k. refl;
          is_object = refl;
          local_slices = λ e k. refl;
          is_mark = refl;
          mark = refl;
          callee = refl;
          known = λ e k i. unless_stopped (range_alike back m e k i) (bounds_alike e k i);
          prefix = tt;
          is_whole = λ e k. refl;
          inner = attribute_read_alike false p q h;
        }
    attributed_alike EventOf m =
        fresh_alike l numbers _ _ m (λ _. never) (λ _. never) _ _ event_alike (λ e k. refl) (attribute_read_alike true p q h)
    attributed_alike (OfType a) m =
        record {
          value = h.value;
          place = h.place;
          signals = h.signals;
          range = h.range;
          shape = h.shape;
          subtype = h.subtype;
          make = h.make;
          is_object = h.is_object;
          local_slices = h.local_slices;
          is_mark = refl;
          mark = refl;
          callee = refl;
          known = h.known;
          prefix = h.prefix;
          is_whole = h.is_whole;
          inner = h.inner;
        }
    attributed_alike NoAttribute m = no_name_alike l numbers
