-- Constraints by whether their ranges lie within another.
use Rattle.std.proofs.Common.{◌≡◌, Bool, Err, List, None, Ok, Option, Some, ap, false, if◌then◌else◌, refl, true, ℕ}
use Rattle.vd_composites.specs.Ranges.{lies_within}
use Rattle.vd_composites.specs.Stops.{OrStop}
use Rattle.vd_composites.specs.Subtypes.{Arrays, Scalars, Subtype}
use Rattle.vd_composites.specs.declared.ranges.Bounds.{Bounds}
use Rattle.vd_composites.specs.declared.scalars.ScalarSubtype.{ScalarSubtype}
use Rattle.vd_environments.specs.Environments.{Indicated, Static, both}
use Rattle.vd_environments.specs.Got.{got}
use Rattle.vd_value_rules.specs.Indicated.{array_indicated}
use Rattle.vd_value_rules.specs.Made.{narrowed_by, scalar_indicated, within_range}
use Rattle.vd_value_rules.specs.Knowledge.{later, later_bounds, or_later}
use Rattle.vd_values.specs.declared.scalar.StopKind.{StopKind}
use Rattle.vd_values.specs.declared.scalar.StopKind.TheVariants.{Index, Range}

abbrev or_none : Bool → Bounds → Option Bounds
or_none t x = if t then Some x else None

abbrev or_stop : Bool → Subtype → StopKind → OrStop Subtype
or_stop t s stop = if t then Ok s else Err stop

module _ (f : Bounds → Subtype) (stop : StopKind) (known : Static) (i : Indicated) where
  abbrev chosen : Bool → Bounds → Indicated
  chosen t x = or_later (got (or_stop t (f x) stop)) known i

  taken : (t : Bool) (x b : Bounds) → or_none t x ≡ Some b → chosen t x ≡ or_later (Ok (f b)) known i
  taken true x b is = let same : x ≡ b = cc in ap (λ y. or_later (Ok (f y)) known i) same
  taken false x b is = absurd (cc)

  left : (t : Bool) (x : Bounds) → or_none t x ≡ None → chosen t x ≡ or_later (got (Err stop)) known i
  left true x is = absurd (cc)
  left false x is = refl

module _ (s : ScalarSubtype) (texts : List (List ℕ)) (is_resolved : Bool) (own known : Static) where
  abbrev scalar : Indicated
  scalar = scalar_indicated s texts is_resolved own

  pub scalar_taken : (range : Option Bounds) (b : Bounds) → within_range s.range range ≡ Some b
      → narrowed_by range known scalar ≡ scalar_indicated (record { of_type = s.of_type; range = b }) texts is_resolved (both known own)
  scalar_taken None b is = absurd (cc)
  scalar_taken (Some x) b is = taken (λ y. Scalars (record { of_type = s.of_type; range = y })) Range known scalar (lies_within s.range x) x b is

  pub scalar_left : (range : Option Bounds) → within_range s.range range ≡ None
      → narrowed_by range known scalar ≡ scalar_indicated s texts is_resolved (both (later known) own)
  scalar_left None is = refl
  scalar_left (Some x) is = left (λ y. Scalars (record { of_type = s.of_type; range = y })) Range known scalar (lies_within s.range x) x is

module _ (index : ScalarSubtype) (literals : List (List ℕ)) (own known : Static) (element : Indicated) where
  abbrev array : Indicated
  array = array_indicated index None own literals element

  pub array_taken : (range : Option Bounds) (b : Bounds) → within_range index.range range ≡ Some b
      → narrowed_by range known array ≡ array_indicated index (Some b) (both known own) literals element
  array_taken None b is = absurd (cc)
  array_taken (Some x) b is = taken (λ y. Arrays index (Some y) element.subtype) Index known array (lies_within index.range x) x b is

  pub array_left : (range : Option Bounds) → within_range index.range range ≡ None
      → narrowed_by range known array ≡ array_indicated index (Some later_bounds) (both (later known) own) literals element
  array_left None is = refl
  array_left (Some x) is = left (λ y. Arrays index (Some y) element.subtype) Index known array (lies_within index.range x) x is
