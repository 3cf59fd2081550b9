-- Bounds of the values of subtypes. No name has a dash, so that a caller can name each in `#[tactic(auto, using(..))]`.
use Rattle.std.proofs.Common.{◌≡◌, ◌==◌, Bool, Err, None, Ok, Some, ap, cond, false, refl, sym, true}
use Rattle.vd_composites.specs.Composites.{Array, Fields, Items, One, Value, bounds_of, count}
use Rattle.vd_composites.specs.Parts.{array_of}
use Rattle.vd_composites.specs.Ranges.{length_of, lies_within}
use Rattle.vd_composites.specs.Scalars.{belongs}
use Rattle.vd_composites.specs.Stops.{OrStop}
use Rattle.vd_composites.specs.Subtypes.{Arrays, Records, Scalars, Subtype, Subtypes, default_of, fit, number_of}
use Rattle.vd_composites.specs.declared.ranges.Bounds.{Bounds}
use Rattle.vd_composites.specs.declared.scalars.ScalarSubtype.{ScalarSubtype}
use Rattle.vd_environments.specs.Environments.{Indicated, Make}
use Rattle.vd_known_designs.specs.Shapes.{default_shape, fitted_shape, signals_shape}
use Rattle.vd_value_rules.specs.Knowledge.{shaped_signals}
use Rattle.vd_values.specs.declared.scalar.Scalar.{Scalar}
use Rattle.vd_values.specs.declared.scalar.StopKind.{StopKind}
use Rattle.vd_values.specs.declared.scalar.StopKind.TheVariants.{Index, Length, Range}

pub bounds_of_default : (s : Subtype) → bounds_of (default_of s) ≡ default_shape s
bounds_of_default (Scalars s) = refl
bounds_of_default (Arrays index None element) = refl
bounds_of_default (Arrays index (Some b) element) = refl
bounds_of_default (Records fields) = refl

bounds_by_subtype : (s : Subtype) (make : Make) → bounds_of (shaped_signals (record { subtype = s; make = make })) ≡ signals_shape s
bounds_by_subtype (Scalars s) make = refl
bounds_by_subtype (Arrays index bounds element) make = refl
bounds_by_subtype (Records fields) make = refl

pub bounds_of_signals : (i : Indicated) → bounds_of (shaped_signals i) ≡ signals_shape i.subtype
bounds_of_signals i = bounds_by_subtype i.subtype i.make

-- ---- a value that was made one of a subtype

ok_same : {A : Type 0} (x y : A) → (let g : OrStop A = Ok x in let h : OrStop A = Ok y in g ≡ h) → x ≡ y
ok_same x y h = cc

if_ok : {A : Type 0} (b : Bool) (g : OrStop A) (e : StopKind) (x : A) → cond b g (Err e) ≡ Ok x → g ≡ Ok x
if_ok true g e x h = h
if_ok false g e x h = absurd cc

fitted_scalar : (s : ScalarSubtype) (x : Scalar) (w : Value Scalar) → fit (Scalars s) (One x) ≡ Ok w → bounds_of w ≡ None
fitted_scalar s x w h = let two = if_ok (belongs s x) (Ok (One x)) Range w h in ap bounds_of (sym (ok_same (One x) w two))

fitted_bounded : (index : ScalarSubtype) (b : Bounds) (element : Subtype) (own : Bounds) (vs : Items Scalar) (w : Value Scalar)
    → fit (Arrays index (Some b) element) (Array own vs) ≡ Ok w → bounds_of w ≡ Some b
fitted_bounded index b element own vs w h =
    let two = if_ok (count vs == length_of b) (Ok (Array b vs)) Length w h in ap bounds_of (sym (ok_same (Array b vs) w two))

fitted_free : (index : ScalarSubtype) (element : Subtype) (own : Bounds) (vs : Items Scalar) (w : Value Scalar)
    → fit (Arrays index None element) (Array own vs) ≡ Ok w → bounds_of w ≡ Some own
fitted_free index element own vs w h =
    let two = if_ok (lies_within index.range own) (array_of own vs) Index w h in
    let three = if_ok (count vs == length_of own) (Ok (Array own vs)) Range w two in
    ap bounds_of (sym (ok_same (Array own vs) w three))

fitted_record : (fields : Subtypes) (vs : Items Scalar) (w : Value Scalar) → fit (Records fields) (Fields vs) ≡ Ok w → bounds_of w ≡ None
fitted_record fields vs w h =
    let two = if_ok (count vs == number_of fields) (Ok (Fields vs)) Range w h in ap bounds_of (sym (ok_same (Fields vs) w two))

no_value : {P : Type 0} (w : Value Scalar) → (let g : OrStop (Value Scalar) = Err Range in g ≡ Ok w) → P
no_value w h = absurd cc

pub bounds_of_fitted : (s : Subtype) (v w : Value Scalar) → fit s v ≡ Ok w → bounds_of w ≡ fitted_shape s (bounds_of v)
bounds_of_fitted (Scalars s) (One x) w h = fitted_scalar s x w h
bounds_of_fitted (Scalars s) (Array own vs) w h = no_value w h
bounds_of_fitted (Scalars s) (Fields vs) w h = no_value w h
bounds_of_fitted (Arrays index bounds element) (One x) w h = no_value w h
bounds_of_fitted (Arrays index None element) (Array own vs) w h = fitted_free index element own vs w h
bounds_of_fitted (Arrays index (Some b) element) (Array own vs) w h = fitted_bounded index b element own vs w h
bounds_of_fitted (Arrays index bounds element) (Fields vs) w h = no_value w h
bounds_of_fitted (Records fields) (One x) w h = no_value w h
bounds_of_fitted (Records fields) (Array own vs) w h = no_value w h
bounds_of_fitted (Records fields) (Fields vs) w h = fitted_record fields vs w h
