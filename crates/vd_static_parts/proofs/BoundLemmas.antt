-- What is known of the bounds of a name.
use Rattle.std.proofs.Common.{◌≡◌, ◌&&◌, ◌∙◌, Bool, List, None, Ok, Option, Some, [], ap, false, if◌then◌else◌, not, refl, subst, sym, true, ℕ}
use Rattle.vd_composites.specs.Composites.{Value}
use Rattle.vd_composites.specs.Stops.{◌>>=◌}
use Rattle.vd_composites.specs.Subtypes.{Arrays, Records, Scalars, Subtype}
use Rattle.vd_composites.specs.declared.scalars.ScalarSubtype.{ScalarSubtype}
use Rattle.vd_environments.specs.Environments.{Env, Make, OfElements, OfFields, OfScalar, Static, own_bounds}
use Rattle.vd_environments.specs.Got.{Got, got, is_got}
use Rattle.vd_forest.specs.Forest.{Forest}
use Rattle.vd_value_rules.specs.Indicated.{static_of}
use Rattle.vd_value_rules.specs.declared.forms.IndicatedForm.{IndicatedForm}
use Rattle.vd_value_rules.specs.declared.statics.StaticSort.{StaticSort}
use Rattle.vd_meaning.specs.Names.{Named, bound_of_mark, bound_value, bounds_known, name_bounds, scalar_type, scalars_of}
use Rattle.vd_meaning.specs.Names as names
use Rattle.vd_operators.specs.Applied.{applied}
use Rattle.vd_operators.specs.declared.attributes.Side.{Side}
use Rattle.vd_operators.specs.declared.op.Op.TheVariants.{SubtypeBound}
use Rattle.vd_static_parts.specs.Attributes.{bound_by}
use Rattle.vd_static_values.specs.Entries.{IsFound}
use Rattle.vd_static_values.specs.Names.{IsName, has_made_bounds, subtype_found}
use Rattle.vd_static_values.specs.declared.names.KnownName.{KnownName}
use Rattle.vd_static_names.proofs.StopLemmas.{left_true, right_true}
use Rattle.vd_values.specs.declared.scalar.Scalar.{Scalar}

made_bounds : (m : Make) → (own_bounds m).is_local ≡ true → has_made_bounds m ≡ true
made_bounds (OfScalar scalar range) is = is
made_bounds (OfElements literals known make) is = refl
made_bounds (OfFields makes) is = refl

module _ (subtypes : List (Forest IndicatedForm)) (e : Env) (x : KnownName) (p : Named) (is : IsName subtypes e x p) where
  abbrev value_bounds : Static
  value_bounds = record { is_local = (p.known e).is_local; is_global = (p.known e).is_local && (p.known e).is_global }

  shape_by : (object : Bool) → p.is_object ≡ object → (if object then name_bounds p e else value_bounds).is_local ≡ true → IsFound x.shape (p.shape e)
  shape_by true object local =
      is.shape object (right_true (own_bounds (p.make e)).is_local (p.local_slices e) local)
      (made_bounds (p.make e) (left_true (own_bounds (p.make e)).is_local (p.local_slices e) local))
  shape_by false object local = is.own_shape object local

  subtype_by : (object : Bool) → p.is_object ≡ object → (if object then name_bounds p e else value_bounds).is_local ≡ true
      → IsFound (subtype_found subtypes x) (p.subtype e)
  subtype_by true object local = is.subtype (right_true (own_bounds (p.make e)).is_local (p.local_slices e) local)
  subtype_by false object local = is.subtype (is.early local)

  -- where the bounds are locally static, they and the subtype are known
  pub shape_known : (bounds_known p e).is_local ≡ true → IsFound x.shape (p.shape e)
  shape_known local = shape_by p.is_object refl local

  pub subtype_known : (bounds_known p e).is_local ≡ true → IsFound (subtype_found subtypes x) (p.subtype e)
  subtype_known local = subtype_by p.is_object refl local

not_both : (b : Bool) → not b ≡ true → b ≡ true → ⊥
not_both true unlike like = cc
not_both false unlike like = cc

-- what isn't locally static
pub not_known : (k : StaticSort) (s : Static) → static_of k ≡ s → not k.is_local ≡ true → s.is_local ≡ true → ⊥
not_known k s known unlike like = not_both k.is_local unlike (ap (λ (t : Static). t.is_local) known ∙ like)

-- ---- subtypes

pub has_one : (has : Bool) (i : Subtype) (g : Got Subtype) → has ≡ true → IsFound (if has then Some i else None) g → g ≡ Ok i
has_one true i g is found = found
has_one false i g is found = absurd (cc)

-- ---- bounds

module _ (side : Side) (index : Option ℕ) (e : Env) (p : Named) (f : Option (Value Scalar)) where
  of_scalars : (t : Subtype) (s : ScalarSubtype) → scalars_of t ≡ Ok s → IsFound f (got (applied (SubtypeBound side s) [])) → IsFound f (bound_of_mark side index e p t)
  of_scalars (Scalars r) s is found = let same : s ≡ r = cc in subst (λ q. IsFound f (got (applied (SubtypeBound side q) []))) same found
  of_scalars (Arrays i b of) s is found = absurd (cc)
  of_scalars (Records fields) s is found = absurd (cc)

  of_others : (t : Subtype) → is_got (scalars_of t) ≡ false → IsFound f (bound_by side (p.shape e) (scalar_type index e)) → IsFound f (bound_of_mark side index e p t)
  of_others (Scalars r) is found = absurd (cc)
  of_others (Arrays i b of) is found = found
  of_others (Records fields) is found = found

  marked_bound : (g : Got Subtype) (t : Subtype) → p.is_mark ≡ true → p.subtype e ≡ Ok t → IsFound f (bound_of_mark side index e p t) → IsFound f (bound_value side index p e)
  marked_bound g t mark is found =
      subst (λ b. IsFound f (if b then (p.subtype e >>= bound_of_mark side index e p) else names.bound_of_array side index e p)) (sym mark)
      (subst (λ h. IsFound f (h >>= bound_of_mark side index e p)) (sym is) found)

  pub bound_of_scalars : (t : Subtype) (s : ScalarSubtype) → p.is_mark ≡ true → p.subtype e ≡ Ok t → scalars_of t ≡ Ok s
      → IsFound f (got (applied (SubtypeBound side s) [])) → IsFound f (bound_value side index p e)
  bound_of_scalars t s mark is scalars found = marked_bound (p.subtype e) t mark is (of_scalars t s scalars found)

  pub bound_of_others : (t : Subtype) → p.is_mark ≡ true → p.subtype e ≡ Ok t → is_got (scalars_of t) ≡ false
      → IsFound f (bound_by side (p.shape e) (scalar_type index e)) → IsFound f (bound_value side index p e)
  bound_of_others t mark is scalars found = marked_bound (p.subtype e) t mark is (of_others t scalars found)

  pub bound_of_array : p.is_mark ≡ false → IsFound f (bound_by side (p.shape e) (scalar_type index e)) → IsFound f (bound_value side index p e)
  bound_of_array mark found =
      subst (λ b. IsFound f (if b then (p.subtype e >>= bound_of_mark side index e p) else names.bound_of_array side index e p)) (sym mark) found
