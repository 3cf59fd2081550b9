-- What is so of a top that is found.
use Rattle.std.proofs.Common.{◌≡◌, ◌<◌, ℕ, zero, suc, ◌+◌, Bool, true, false, Option, Some, None, ◌⊎◌, inl, inr, refl, sym, ap, subst, ◌∙◌, arith, List}
use Rattle.std.specs.Prelude.{option_and_then, if◌then◌else◌, IfSome}
use Rattle.vd_bytes.specs.declared.places.Place.{Place}
use Rattle.vd_forest.specs.Forest.{Forest, nothing, more, parts_of}
use Rattle.vd_forest.proofs.ForestLemmas.{skipped_nothing}
use Rattle.vd_resolved.specs.declared.node.Resolved.{Resolved}
use Rattle.vd_resolved.specs.Trees.{ResolvedTree}
use Rattle.vd_tops.specs.declared.tops.TopId.{TopId}
use Rattle.vd_tops.specs.TopNames.{TopName, name_told}
use Rattle.vd_tops.specs.Tops.{library_unit, unit_at, is_entity, is_architecture, last_passing, generics_of, have_defaults, both_units, top_among, top_named, IsLast, IsTop, IsNamed}

module _ (test : Forest Resolved → Bool) (blank : test nothing ≡ false) where
  nothing_passes : (k : ℕ) → test (unit_at nothing k) ≡ false
  nothing_passes k = ap (λ f. test (library_unit (parts_of f))) (skipped_nothing k) ∙ blank

  module _ (node : Resolved) (text : List ℕ) (place : Place) (parts next : Forest Resolved) where
    none_more : test (library_unit parts) ≡ false → ((k : ℕ) → test (unit_at next k) ≡ false) → (k : ℕ) → test (unit_at (more node text place parts next) k) ≡ false
    none_more here none zero = here
    none_more here none (suc k) = none k

    behind_first : ((k : ℕ) → test (unit_at next k) ≡ false) → (k : ℕ) → 0 < k → test (unit_at (more node text place parts next) k) ≡ false
    behind_first none zero h = absurd (omega arith)
    behind_first none (suc k) h = none k

    first_last : test (library_unit parts) ≡ true → ((k : ℕ) → test (unit_at next k) ≡ false) → IsLast test (more node text place parts next) 0
    first_last here none = record { passes = here; last = behind_first none }

    behind_later : (j : ℕ) → IsLast test next j → (k : ℕ) → suc j < k → test (unit_at (more node text place parts next) k) ≡ false
    behind_later j l zero h = absurd (omega arith)
    behind_later j l (suc k) h = l.last k (omega arith)

    later_last : (j : ℕ) → IsLast test next j → IsLast test (more node text place parts next) (suc j)
    later_last j l = record { passes = l.passes; last = behind_later j l }

  -- what was found before, and none passes; or the last that passes
  abbrev Found : Option ℕ → ℕ → Forest Resolved → ℕ → Type 0
  Found found n units m =
      ((found ≡ Some m) × ((k : ℕ) → test (unit_at units k) ≡ false)) ⊎ ((j : ℕ) × ((m ≡ n + j) × IsLast test units j))

  one_more : (node : Resolved) (text : List ℕ) (place : Place) (parts next : Forest Resolved) (found : Option ℕ) (n m : ℕ) (b : Bool) → test (library_unit parts) ≡ b
      → Found (if b then Some n else found) (n + 1) next m → Found found n (more node text place parts next) m
  one_more node text place parts next found n m true is (inl h) =
      let e : n ≡ m = cc (h.0) in
      let at : m ≡ n + 0 = omega arith in
      inr (0, (at, first_last node text place parts next is h.1))
  one_more node text place parts next found n m false is (inl h) = inl (h.0, none_more node text place parts next is h.1)
  one_more node text place parts next found n m true is (inr h) =
      let at : m ≡ n + suc h.0 = omega (arith, h.1.0) in
      inr (suc h.0, (at, later_last node text place parts next h.0 h.1.1))
  one_more node text place parts next found n m false is (inr h) =
      let at : m ≡ n + suc h.0 = omega (arith, h.1.0) in
      inr (suc h.0, (at, later_last node text place parts next h.0 h.1.1))

  found_last : (found : Option ℕ) (n : ℕ) (units : Forest Resolved) (m : ℕ) → last_passing test found n units ≡ Some m → Found found n units m
  found_last found n nothing m e = inl (e, nothing_passes)
  found_last found n (more node text place parts next) m e =
      one_more node text place parts next found n m (test (library_unit parts)) refl
      (found_last (if test (library_unit parts) then Some n else found) (n + 1) next m e)

  none_is_some : (m : ℕ) → None ≡ Some m → ⊥
  none_is_some m e = cc

  is_last : (units : Forest Resolved) (m : ℕ) → last_passing test None 0 units ≡ Some m → IsLast test units m
  is_last units m e = from (found_last None 0 units m e)
    where
      from : Found None 0 units m → IsLast test units m
      from (inl h) = absurd (none_is_some m h.0)
      from (inr h) = let at : h.0 ≡ m = omega (arith, h.1.0) in subst (IsLast test units) at h.1.1

module _ (units : Forest Resolved) (name : TopName) (top : TopId) where
  with_defaults : (e a : ℕ) → last_passing (is_entity name.entity) None 0 units ≡ Some e → last_passing (is_architecture name) None 0 units ≡ Some a
      → (b : Bool) → have_defaults (generics_of (unit_at units e)) ≡ b → (if b then Some (record { entity = e; architecture = a }) else None) ≡ Some top → IsTop units name top
  with_defaults e a p q true d h =
      let made : TopId = record { entity = e; architecture = a } in
      let same : made ≡ top = cc in
      let is : IsTop units name made = record { entity = is_last (is_entity name.entity) refl units e p; architecture = is_last (is_architecture name) refl units a q; defaults = d } in
      subst (IsTop units name) same is
  with_defaults e a p q false d h = cc

  with_units : (e a : Option ℕ) → last_passing (is_entity name.entity) None 0 units ≡ e → last_passing (is_architecture name) None 0 units ≡ a
      → both_units units e a ≡ Some top → IsTop units name top
  with_units None a p q h = cc
  with_units (Some e) None p q h = cc
  with_units (Some e) (Some a) p q h = with_defaults e a p q (have_defaults (generics_of (unit_at units e))) refl h

  top_is : top_among units name ≡ Some top → IsTop units name top
  top_is = with_units (last_passing (is_entity name.entity) None 0 units) (last_passing (is_architecture name) None 0 units) refl refl

module _ (design : ResolvedTree) (name : List ℕ) where
  with_name : (top : TopId) (told : Option TopName) → name_told name ≡ told → option_and_then (top_among design.units) told ≡ Some top → IsNamed design name top
  with_name top None p h = cc
  with_name top (Some told) p h = record { told = told; is_told = p; is_top = top_is design.units told top h }

  pub if_named : (o : Option TopId) → o ≡ top_named design name → IfSome o (IsNamed design name)
  if_named None e = tt
  if_named (Some top) e = with_name top (name_told name) refl (sym e)
