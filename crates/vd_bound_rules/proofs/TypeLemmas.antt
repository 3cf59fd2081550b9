-- Types with bounds.
use Rattle.std.proofs.Common.{◌≡◌, ◌&&◌, ◌∙◌, Bool, None, Option, Some, ap, ap₂, false, is_some, not, refl, sym, true, ℕ}
use Rattle.vd_bound_rules.specs.Written.{IsTypeLength}
use Rattle.vd_bound_rules.specs.declared.written.TypeLength.{TypeLength}
use Rattle.vd_composites.specs.Subtypes.{Arrays, Records, Scalars, Subtype}
use Rattle.vd_composites.specs.declared.ranges.Bounds.{Bounds}
use Rattle.vd_environments.specs.Environments.{Indicated, or_senseless}
use Rattle.vd_meaning.specs.Declarations.{has_bounds}
use Rattle.vd_meaning.specs.Names.{bounds_of_subtype}
use Rattle.vd_value_rules.specs.Bounds.{NotAsked, WithLength, Written, differs_from_type, same_length}
use Rattle.vd_value_rules.specs.Choices.{is_array}
use Rattle.vd_value_rules.specs.Lengths.{static_length}
use Rattle.vd_value_rules.specs.Standings.{is_bounded_indicated}

pub bounded_is : (o : Option Bounds) (s : Subtype) → or_senseless o ≡ bounds_of_subtype s → (is_array s && has_bounds s) ≡ is_some o
bounded_is None (Scalars s) is = refl
bounded_is (Some b) (Scalars s) is = absurd (cc)
bounded_is None (Arrays index None element) is = refl
bounded_is (Some b) (Arrays index None element) is = absurd (cc)
bounded_is None (Arrays index (Some c) element) is = absurd (cc)
bounded_is (Some b) (Arrays index (Some c) element) is = refl
bounded_is None (Records fields) is = refl
bounded_is (Some b) (Records fields) is = absurd (cc)

both_and : (a b c : Bool) → (a && b && c) ≡ ((a && b) && c)
both_and true b c = refl
both_and false b c = refl

pub differs_by : (x : TypeLength) (i : Indicated) (l : Option ℕ) → IsTypeLength x i → (x.is_bounded && not (same_length l x.length)) ≡ differs_from_type i (WithLength l)
differs_by x i l is =
    ap₂ (λ a b. a && not (same_length l b)) (sym is.bounded) (sym is.length)
    ∙ sym (both_and (is_array i.subtype) (is_bounded_indicated i) (not (same_length l (static_length i))))

none_differ : (i : Indicated) (w : Written) (b : Bool) → (is_array i.subtype && is_bounded_indicated i) ≡ b → b ≡ false → false ≡ differs_from_type i w
none_differ i NotAsked b is absent = refl
none_differ i (WithLength l) b is absent =
    ap (λ c. c && not (same_length l (static_length i))) (sym (is ∙ absent)) ∙ sym (both_and (is_array i.subtype) (is_bounded_indicated i) (not (same_length l (static_length i))))

pub no_bounds_differ : (x : TypeLength) (i : Indicated) (w : Written) → IsTypeLength x i → x.is_bounded ≡ false → false ≡ differs_from_type i w
no_bounds_differ x i w is absent = none_differ i w x.is_bounded is.bounded absent
