-- How the logic stores a value, so that it can tell two of them apart. A type whose value is a value of the language names `coded_value`.
use Rattle.std.specs.Prelude.{◌≡◌, ℕ, zero, suc, ℤ, pos, Bool, refl}
use Rattle.std.specs.Coded.{Coded, code_by, coded×, coded_ℕ, coded_ℤ, coded_bool}
use Rattle.std.proofs.Common.{sym, ap, subst}
use base.Stored.{Gv, gnil, gnum, gcons}
use Rattle.vd_values.specs.declared.scalar.Scalar.{Scalar}
use Rattle.vd_values.specs.declared.scalar.Scalar.TheVariants.{Integer, Literal, Time}
use Rattle.vd_composites.specs.declared.ranges.Bounds.{Bounds}
use Rattle.vd_composites.specs.Composites.{Value, One, Array, Fields, Items, none, item}

abbrev pub coded_bounds : Coded Bounds
coded_bounds =
    code_by (ℤ × (ℤ × Bool)) (coded× coded_ℤ (coded× coded_ℤ coded_bool)) (λ b. (b.left, (b.right, b.down)))
    (λ t. record { left = t.0; right = t.1.0; down = t.1.1 }) (λ _. refl)

-- a scalar value as a number for its kind and its own
abbrev kind_of : Scalar → ℕ × (ℤ × ℕ)
kind_of (Integer x) = (0, (x, 0))
kind_of (Literal n) = (1, (pos 0, n))
kind_of (Time t) = (2, (pos 0, t))

abbrev of_kind : ℕ → ℤ → ℕ → Scalar
of_kind zero x n = Integer x
of_kind (suc zero) x n = Literal n
of_kind (suc (suc k)) x n = Time n

pub kind_back : (x : Scalar) → of_kind (kind_of x).0 (kind_of x).1.0 (kind_of x).1.1 ≡ x
kind_back (Integer x) = refl
kind_back (Literal n) = refl
kind_back (Time t) = refl

abbrev pub coded_scalar : Coded Scalar
coded_scalar =
    code_by (ℕ × (ℤ × ℕ)) (coded× coded_ℕ (coded× coded_ℤ coded_ℕ)) kind_of (λ t. of_kind t.0 t.1.0 t.1.1) kind_back

-- ---- the halves of a stored pair

abbrev first : Gv → Gv
first gnil = gnil
first (gnum n) = gnil
first (gcons a b) = a

abbrev second : Gv → Gv
second gnil = gnil
second (gnum n) = gnil
second (gcons a b) = b

abbrev IsPair : Gv → Type 0
IsPair gnil = ⊥
IsPair (gnum n) = ⊥
IsPair (gcons a b) = Unit {0}

-- a value is stored as a number for its kind and what it has
abbrev mutual
  stored : Value Scalar → Gv
  stored (One x) = gcons gnil (coded_scalar.code x)
  stored (Array b vs) = gcons (gcons gnil gnil) (gcons (coded_bounds.code b) (all_stored vs))
  stored (Fields vs) = gcons (gnum 0) (all_stored vs)

  all_stored : Items Scalar → Gv
  all_stored none = gnil
  all_stored (item v vs) = gcons (stored v) (all_stored vs)

abbrev IsNothing : Gv → Type 0
IsNothing gnil = Unit {0}
IsNothing (gnum n) = ⊥
IsNothing (gcons a b) = ⊥

mutual
  pub stored_inj : (v w : Value Scalar) → stored v ≡ stored w → v ≡ w
  stored_inj (One x) (One y) same = ap One (coded_scalar.inj x y (ap second same))
  stored_inj (One x) (Array c ws) same = absurd (subst IsNothing (ap first same) tt)
  stored_inj (One x) (Fields ws) same = absurd (subst IsNothing (ap first same) tt)
  stored_inj (Array b vs) (One y) same = absurd (subst IsPair (ap first same) tt)
  stored_inj (Array b vs) (Array c ws) same = λ i.
      Array (coded_bounds.inj b c (ap (λ g. first (second g)) same) i) (all_stored_inj vs ws (ap (λ g. second (second g)) same) i)
  stored_inj (Array b vs) (Fields ws) same = absurd (subst IsPair (ap first same) tt)
  stored_inj (Fields vs) (One y) same = absurd (subst IsNothing (sym (ap first same)) tt)
  stored_inj (Fields vs) (Array c ws) same = absurd (subst IsPair (sym (ap first same)) tt)
  stored_inj (Fields vs) (Fields ws) same = ap Fields (all_stored_inj vs ws (ap second same))

  pub all_stored_inj : (vs ws : Items Scalar) → all_stored vs ≡ all_stored ws → vs ≡ ws
  all_stored_inj none none same = refl
  all_stored_inj none (item w ws) same = absurd (subst IsPair (sym same) tt)
  all_stored_inj (item v vs) none same = absurd (subst IsPair same tt)
  all_stored_inj (item v vs) (item w ws) same = λ i. item (stored_inj v w (ap first same) i) (all_stored_inj vs ws (ap second same) i)

abbrev pub coded_value : Coded (Value Scalar)
coded_value = record { code = stored; inj = stored_inj }

abbrev pub coded_items : Coded (Items Scalar)
coded_items = record { code = all_stored; inj = all_stored_inj }
