-- How the logic stores a subtype, so that it can tell two of them apart. A type whose value is a subtype names `coded_subtype`.
use Rattle.std.specs.Prelude.{◌≡◌, ℕ, zero, suc, Option, Some, None, refl}
use Rattle.std.specs.Coded.{Coded, code_by, coded×, coded_ℕ}
use Rattle.std.proofs.Common.{sym, ap, subst}
use base.Stored.{Gv, gnil, gnum, gcons}
use Rattle.vd_composites.specs.Codes.{coded_bounds}
use Rattle.vd_composites.specs.declared.ranges.Bounds.{Bounds}
use Rattle.vd_composites.specs.declared.scalars.ScalarType.{ScalarType}
use Rattle.vd_composites.specs.declared.scalars.ScalarType.TheVariants.{Integers, Enumeration, Times}
use Rattle.vd_composites.specs.declared.scalars.ScalarSubtype.{ScalarSubtype}
use Rattle.vd_composites.specs.Subtypes.{Subtype, Scalars, Arrays, Records, Subtypes, no_more, and_more}

-- a scalar type as a number for its kind and its own
abbrev kind_of : ScalarType → ℕ × ℕ
kind_of Integers = (0, 0)
kind_of (Enumeration n) = (1, n)
kind_of Times = (2, 0)

abbrev of_kind : ℕ → ℕ → ScalarType
of_kind zero n = Integers
of_kind (suc zero) n = Enumeration n
of_kind (suc (suc k)) n = Times

pub kind_back : (t : ScalarType) → of_kind (kind_of t).0 (kind_of t).1 ≡ t
kind_back Integers = refl
kind_back (Enumeration n) = refl
kind_back Times = refl

abbrev pub coded_type : Coded ScalarType
coded_type = code_by (ℕ × ℕ) (coded× coded_ℕ coded_ℕ) kind_of (λ t. of_kind t.0 t.1) kind_back

abbrev pub coded_scalars : Coded ScalarSubtype
coded_scalars =
    code_by (ScalarType × Bounds) (coded× coded_type coded_bounds) (λ s. (s.of_type, s.range))
    (λ t. record { of_type = t.0; range = t.1 }) (λ _. refl)

-- ---- the halves of a stored pair

abbrev first : Gv → Gv
first gnil = gnil
first (gnum n) = gnil
first (gcons a b) = a

abbrev second : Gv → Gv
second gnil = gnil
second (gnum n) = gnil
second (gcons a b) = b

abbrev IsPair : Gv → Type 0
IsPair gnil = ⊥
IsPair (gnum n) = ⊥
IsPair (gcons a b) = Unit {0}

abbrev IsNothing : Gv → Type 0
IsNothing gnil = Unit {0}
IsNothing (gnum n) = ⊥
IsNothing (gcons a b) = ⊥

-- bounds that may be missing
abbrev stored_bounds : Option Bounds → Gv
stored_bounds None = gnil
stored_bounds (Some b) = gcons gnil (coded_bounds.code b)

pub stored_bounds_inj : (b c : Option Bounds) → stored_bounds b ≡ stored_bounds c → b ≡ c
stored_bounds_inj None None same = refl
stored_bounds_inj None (Some c) same = absurd (subst IsNothing same tt)
stored_bounds_inj (Some b) None same = absurd (subst IsPair same tt)
stored_bounds_inj (Some b) (Some c) same = ap Some (coded_bounds.inj b c (ap second same))

-- a subtype is stored as something for its kind and what it has
abbrev mutual
  stored : Subtype → Gv
  stored (Scalars s) = gcons gnil (coded_scalars.code s)
  stored (Arrays index bounds element) = gcons (gcons gnil gnil) (gcons (coded_scalars.code index) (gcons (stored_bounds bounds) (stored element)))
  stored (Records fields) = gcons (gnum 0) (all_stored fields)

  all_stored : Subtypes → Gv
  all_stored no_more = gnil
  all_stored (and_more s ss) = gcons (stored s) (all_stored ss)

mutual
  pub stored_inj : (s t : Subtype) → stored s ≡ stored t → s ≡ t
  stored_inj (Scalars s) (Scalars t) same = ap Scalars (coded_scalars.inj s t (ap second same))
  stored_inj (Scalars s) (Arrays j c f) same = absurd (subst IsNothing (ap first same) tt)
  stored_inj (Scalars s) (Records us) same = absurd (subst IsNothing (ap first same) tt)
  stored_inj (Arrays i b e) (Scalars t) same = absurd (subst IsPair (ap first same) tt)
  stored_inj (Arrays i b e) (Arrays j c f) same = λ k.
      Arrays (coded_scalars.inj i j (ap (λ g. first (second g)) same) k) (stored_bounds_inj b c (ap (λ g. first (second (second g))) same) k) (stored_inj e f (ap (λ g. second (second (second g))) same) k)
  stored_inj (Arrays i b e) (Records us) same = absurd (subst IsPair (ap first same) tt)
  stored_inj (Records ss) (Scalars t) same = absurd (subst IsNothing (sym (ap first same)) tt)
  stored_inj (Records ss) (Arrays j c f) same = absurd (subst IsPair (sym (ap first same)) tt)
  stored_inj (Records ss) (Records us) same = ap Records (all_stored_inj ss us (ap second same))

  pub all_stored_inj : (ss ts : Subtypes) → all_stored ss ≡ all_stored ts → ss ≡ ts
  all_stored_inj no_more no_more same = refl
  all_stored_inj no_more (and_more t ts) same = absurd (subst IsPair (sym same) tt)
  all_stored_inj (and_more s ss) no_more same = absurd (subst IsPair same tt)
  all_stored_inj (and_more s ss) (and_more t ts) same = λ k. and_more (stored_inj s t (ap first same) k) (all_stored_inj ss ts (ap second same) k)

abbrev pub coded_subtype : Coded Subtype
coded_subtype = record { code = stored; inj = stored_inj }
