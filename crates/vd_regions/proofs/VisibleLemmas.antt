-- The lists that the code gathers have what is visible.
use Rattle.std.proofs.Common.{◌≡◌, ◌<◌, ◌⊎◌, ◌==◌, inl, inr, ℕ, zero, suc, Bool, true, false, not, IsTrue, ◌&&◌, Option, Some, None, List, [], ◌∷◌, ◌++◌, length, get_or, if◌then◌else◌, refl, sym, ap, subst, ◌∙◌, arith, append_assoc, true≢false}
use Rattle.std.specs.List.{Contains, filter, flat_map, list_all, list_any}
use Rattle.std.proofs.lemmas.List.{append-nil}
use Rattle.std.proofs.lemmas.List.Elements.{Contains-append_left, Contains-append_right, Contains-append_cases}
use Rattle.std.proofs.lemmas.Slice.Eq.{bytes_eq-Decides}
use Rattle.std.proofs.lemmas.Bool.{cases_Bool, cases_eq, and_parts, and_from, eqb-true, eq-eqb}
use Rattle.vd_declarations.specs.declared.classes.Class.{Class}
use Rattle.vd_declarations.specs.declared.classes.Class.TheVariants as class
use Rattle.vd_declarations.specs.Classes.{is_overloadable}
use Rattle.vd_regions.specs.declared.entries.Entered.{Entered}
use Rattle.vd_regions.specs.Scopes.{Scopes, Clause, region_at, declaration_at, nothing_entered, stands_in, chain}
use Rattle.vd_regions.specs.Homographs.{apart, replaces}
use Rattle.vd_regions.specs.Found.{entered_below, entered_in, in_place, declared_in, round, apart_from, direct_from, means, given_by, given, is_alone, by_use_among, opens, selected_in, selected_from}
use Rattle.vd_regions.specs.Visible.{Opens, IsSelected, IsEntered, IsDeclared, AreApart, IsOverloadable, Means, IsGiven, IsByUse, IsVisible}
use Rattle.vd_regions.proofs.MemberLemmas.{no_member, cons_cases, cons_here, cons_there, from_filter, in_filter, from_all, to_all, from_none, to_none, in_flat_map, from_flat_map}

-- ---- what a region declares

module _ (test : Entered → Bool) (es : List Entered) where
  from_entered_below : (m k : ℕ) → Contains (entered_below test es m) k → (k < m) × (test (get_or es k nothing_entered) ≡ true)
  from_entered_below zero k c = absurd (no_member k c)
  from_entered_below (suc m) k c = elim (cases_Bool (test (get_or es m nothing_entered))) [
    | inl t ↦ elim (cons_cases m (entered_below test es m) k
        (subst (λ zs. Contains zs k) (ap (λ b. if b then m ∷ entered_below test es m else entered_below test es m) t) c)) [
          | inl e ↦ (omega (arith, e), subst (λ n. test (get_or es n nothing_entered) ≡ true) e t)
          | inr r ↦ let rest = from_entered_below m k r in (omega (arith, rest.0), rest.1)
        ]
    | inr f ↦ let rest = from_entered_below m k (subst (λ zs. Contains zs k) (ap (λ b. if b then m ∷ entered_below test es m else entered_below test es m) f) c) in
        (omega (arith, rest.0), rest.1)
  ]

  in_entered_below : (m k : ℕ) → k < m → test (get_or es k nothing_entered) ≡ true → Contains (entered_below test es m) k
  in_entered_below zero k within t = absurd (omega (arith, within))
  in_entered_below (suc m) k within t = elim (cases_eq k m) [
    | inl e ↦
        let here : test (get_or es m nothing_entered) ≡ true = subst (λ n. test (get_or es n nothing_entered) ≡ true) e t in
        subst (λ zs. Contains zs k) (sym (ap (λ b. if b then m ∷ entered_below test es m else entered_below test es m) here))
        (subst (λ n. Contains (m ∷ entered_below test es m) n) (sym e) (cons_here m (entered_below test es m)))
    | inr other ↦
        let lt : k < m = omega arith in
        let rest = in_entered_below m k lt t in
        elim (cases_Bool (test (get_or es m nothing_entered))) [
          | inl here ↦ subst (λ zs. Contains zs k) (sym (ap (λ b. if b then m ∷ entered_below test es m else entered_below test es m) here))
              (cons_there m (entered_below test es m) k rest)
          | inr not_here ↦ subst (λ zs. Contains zs k) (sym (ap (λ b. if b then m ∷ entered_below test es m else entered_below test es m) not_here)) rest
        ]
  ]

not_false : (b : Bool) → not b ≡ true → b ≡ false
not_false true e = absurd (true≢false (sym e))
not_false false e = refl

module _ (s : Scopes) (name : List ℕ) where
  pub from_entered : (region k : ℕ) → Contains (entered_in s region name) k → IsEntered s region name k
  from_entered region k c =
      let found = from_entered_below (stands_in region name) s.entered (length s.entered) k c in
      let parts = and_parts _ _ found.1 in
      record { known = found.0; here = eqb-true _ _ parts.0; named = (bytes_eq-Decides _ _).0 parts.1 }

  in_entered : (region k : ℕ) → IsEntered s region name k → Contains (entered_in s region name) k
  in_entered region k is =
      in_entered_below (stands_in region name) s.entered (length s.entered) k is.known
      (and_from _ _ (eq-eqb _ _ is.here) ((bytes_eq-Decides _ _).1 is.named))

  pub from_declared : (region k : ℕ) → Contains (declared_in s name region) k → IsDeclared s region name k
  from_declared region k c =
      let found = from_filter (in_place s (entered_in s region name)) (entered_in s region name) k c in
      record {
        entered = from_entered region k found.0;
        in_place = λ j is t. from_none (λ j. replaces s j k) (entered_in s region name) (not_false _ found.1) j (in_entered region j is) t;
      }

  pub in_declared : (region k : ℕ) → IsDeclared s region name k → Contains (declared_in s name region) k
  in_declared region k is =
      in_filter (in_place s (entered_in s region name)) (entered_in s region name) k (in_entered region k is.entered)
      (ap not (to_none (λ j. replaces s j k) (entered_in s region name) (λ j c t. is.in_place j (from_entered region j c) t)))

  -- ---- directly

  -- hidden by none of these, and by none that these regions declare
  from_apart : (regions : List ℕ) (k : ℕ) → apart_from s (round s name regions) k ≡ true
      → (r j : ℕ) → Contains regions r → IsDeclared s r name j → AreApart s k j
  from_apart regions k all r j at is =
      from_all (λ j. apart s (declaration_at s k) (declaration_at s j)) (round s name regions) all j
      (in_flat_map (declared_in s name) regions r j at (in_declared r j is))

  to_apart : (regions : List ℕ) (k : ℕ) → ((r j : ℕ) → Contains regions r → IsDeclared s r name j → AreApart s k j)
      → apart_from s (round s name regions) k ≡ true
  to_apart regions k each =
      to_all (λ j. apart s (declaration_at s k) (declaration_at s j)) (round s name regions)
      (λ j c. let at = from_flat_map (declared_in s name) regions j c in each at.0 j at.1 (from_declared at.0 j at.2))

  -- a split of the regions at the one that declares it
  record IsSplit (inner regions : List ℕ) (k : ℕ) : Type 0 where
    inside : List ℕ
    at : ℕ
    outside : List ℕ
    parts : regions ≡ inside ++ at ∷ outside
    here : Contains (declared_in s name at) k
    unhidden : apart_from s (inner ++ round s name inside) k ≡ true

  from_direct : (inner regions : List ℕ) (k : ℕ) → Contains (direct_from s name inner regions) k → IsSplit inner regions k
  from_direct inner [] k c = absurd (no_member k c)
  from_direct inner (r ∷ regions) k c =
      elim (Contains-append_cases (filter (apart_from s inner) (declared_in s name r)) (direct_from s name (inner ++ declared_in s name r) regions) k c) [
        | inl a ↦
            let found = from_filter (apart_from s inner) (declared_in s name r) k a in
            record {
              inside = [];
              at = r;
              outside = regions;
              parts = refl;
              here = found.0;
              unhidden = ap (λ xs. apart_from s xs k) (append-nil inner) ∙ found.1;
            }
        | inr b ↦
            let rest = from_direct (inner ++ declared_in s name r) regions k b in
            record {
              inside = r ∷ rest.inside;
              at = rest.at;
              outside = rest.outside;
              parts = ap (λ rs. r ∷ rs) rest.parts;
              here = rest.here;
              unhidden = ap (λ xs. apart_from s xs k) (sym (append_assoc inner (declared_in s name r) (round s name rest.inside))) ∙ rest.unhidden;
            }
      ]

  in_direct : (inner inside : List ℕ) (at : ℕ) (outside : List ℕ) (k : ℕ) → Contains (declared_in s name at) k
      → apart_from s (inner ++ round s name inside) k ≡ true → Contains (direct_from s name inner (inside ++ at ∷ outside)) k
  in_direct inner [] at outside k here unhidden =
      Contains-append_left (filter (apart_from s inner) (declared_in s name at)) (direct_from s name (inner ++ declared_in s name at) outside) k
      (in_filter (apart_from s inner) (declared_in s name at) k here (ap (λ xs. apart_from s xs k) (sym (append-nil inner)) ∙ unhidden))
  in_direct inner (r ∷ inside) at outside k here unhidden =
      Contains-append_right (filter (apart_from s inner) (declared_in s name r)) (direct_from s name (inner ++ declared_in s name r) (inside ++ at ∷ outside)) k
      (in_direct (inner ++ declared_in s name r) inside at outside k here
      (ap (λ xs. apart_from s xs k) (append_assoc inner (declared_in s name r) (round s name inside)) ∙ unhidden))

  -- ---- by use

  pub from_means : (own : Option (List ℕ)) → means own name ≡ true → Means own name
  from_means None t = tt
  from_means (Some own) t = (bytes_eq-Decides own name).0 t

  pub to_means : (own : Option (List ℕ)) → Means own name → means own name ≡ true
  to_means None is = refl
  to_means (Some own) is = (bytes_eq-Decides own name).1 is

  pub from_given_by : (clause : Clause) (k : ℕ) → Contains (given_by s name clause) k
      → IsTrue (region_at s clause.from).closed × Means clause.name name × IsDeclared s clause.from name k
  from_given_by clause k c = elim (cases_Bool ((region_at s clause.from).closed && means clause.name name)) [
    | inl t ↦
        let parts = and_parts (region_at s clause.from).closed (means clause.name name) t in (
          parts.0,
          from_means clause.name parts.1,
          from_declared clause.from k (subst (λ zs. Contains zs k) (ap (λ b. if b then declared_in s name clause.from else []) t) c),
        )
    | inr f ↦ absurd (no_member k (subst (λ zs. Contains zs k) (ap (λ b. if b then declared_in s name clause.from else []) f) c))
  ]

  pub in_given_by : (clause : Clause) (k : ℕ) → IsTrue (region_at s clause.from).closed → Means clause.name name
      → IsDeclared s clause.from name k → Contains (given_by s name clause) k
  in_given_by clause k closed meant is =
      subst (λ zs. Contains zs k) (sym (ap (λ b. if b then declared_in s name clause.from else [])
      (and_from (region_at s clause.from).closed (means clause.name name) closed (to_means clause.name meant))))
      (in_declared clause.from k is)

  module _ (region : ℕ) where
    pub from_given : (k : ℕ) → Contains (given s name (chain s region)) k → IsGiven s region name k
    from_given k c =
        let at = from_flat_map (λ r. flat_map (given_by s name) (region_at s r).uses) (chain s region) k c in
        let by = from_flat_map (given_by s name) (region_at s at.0).uses k at.2 in
        let is = from_given_by by.0 k by.2 in
        record { at = at.0; clause = by.0; round = at.1; stands = by.1; closed = is.0; meant = is.1; declared = is.2 }

    pub in_given : (k : ℕ) → IsGiven s region name k → Contains (given s name (chain s region)) k
    in_given k is =
        in_flat_map (λ r. flat_map (given_by s name) (region_at s r).uses) (chain s region) is.at k is.round
        (in_flat_map (given_by s name) (region_at s is.at).uses is.clause k is.stands (in_given_by is.clause k is.closed is.meant is.declared))

    -- where a list has what is given
    module _ (ks : List ℕ) (has : (k : ℕ) → Contains ks k → IsGiven s region name k) (all : (k : ℕ) → IsGiven s region name k → Contains ks k) where
      from_alone : (k : ℕ) → is_alone s ks k ≡ true → (j : ℕ) → IsGiven s region name j → (j ≡ k) ⊎ (IsOverloadable s k × IsOverloadable s j)
      from_alone k t j is = elim (cases_Bool (is_overloadable (declaration_at s k).class)) [
        | inl over ↦
            let each : list_all (λ j. is_overloadable (declaration_at s j).class) ks ≡ true =
            sym (ap (λ b. if b then list_all (λ j. is_overloadable (declaration_at s j).class) ks else list_all (λ j. j == k) ks) over) ∙ t in
            inr (over, from_all (λ j. is_overloadable (declaration_at s j).class) ks each j (all j is))
        | inr alone ↦
            let each : list_all (λ j. j == k) ks ≡ true =
            sym (ap (λ b. if b then list_all (λ j. is_overloadable (declaration_at s j).class) ks else list_all (λ j. j == k) ks) alone) ∙ t in
            inl (eqb-true _ _ (from_all (λ j. j == k) ks each j (all j is)))
      ]

      to_alone : (k : ℕ) → ((j : ℕ) → IsGiven s region name j → (j ≡ k) ⊎ (IsOverloadable s k × IsOverloadable s j)) → is_alone s ks k ≡ true
      to_alone k each = elim (cases_Bool (is_overloadable (declaration_at s k).class)) [
        | inl over ↦
            ap (λ b. if b then list_all (λ j. is_overloadable (declaration_at s j).class) ks else list_all (λ j. j == k) ks) over
            ∙ to_all (λ j. is_overloadable (declaration_at s j).class) ks (λ j c. elim (each j (has j c)) [
              | inl e ↦ ap (λ n. is_overloadable (declaration_at s n).class) e ∙ over
              | inr both ↦ both.1
            ])
        | inr alone ↦
            ap (λ b. if b then list_all (λ j. is_overloadable (declaration_at s j).class) ks else list_all (λ j. j == k) ks) alone
            ∙ to_all (λ j. j == k) ks (λ j c. elim (each j (has j c)) [
              | inl e ↦ eq-eqb j k e
              | inr both ↦ absurd (true≢false (sym both.0 ∙ alone))
            ])
      ]

      from_by_use : (k : ℕ) → Contains (by_use_among s (round s name (chain s region)) ks) k → IsByUse s region name k
      from_by_use k c =
          let found = from_filter (λ k. apart_from s (round s name (chain s region)) k && is_alone s ks k) ks k c in
          let parts = and_parts _ _ found.1 in
          record {
            given = has k found.0;
            unhidden = from_apart (chain s region) k parts.0;
            alone = from_alone k parts.1;
          }

      in_by_use : (k : ℕ) → IsByUse s region name k → Contains (by_use_among s (round s name (chain s region)) ks) k
      in_by_use k is =
          in_filter (λ k. apart_from s (round s name (chain s region)) k && is_alone s ks k) ks k (all k is.given)
          (and_from _ _ (to_apart (chain s region) k is.unhidden) (to_alone k is.alone))

      -- ---- both

      pub from_visible : (k : ℕ) → Contains (direct_from s name [] (chain s region) ++ by_use_among s (round s name (chain s region)) ks) k
          → IsVisible s region name k
      from_visible k c = elim (Contains-append_cases (direct_from s name [] (chain s region)) (by_use_among s (round s name (chain s region)) ks) k c) [
        | inl a ↦
            let split = from_direct [] (chain s region) k a in
            inl (record {
              inside = split.inside;
              at = split.at;
              outside = split.outside;
              round = split.parts;
              declared = from_declared split.at k split.here;
              unhidden = from_apart split.inside k split.unhidden;
            })
        | inr b ↦ inr (from_by_use k b)
      ]

      pub in_visible : (k : ℕ) → IsVisible s region name k
          → Contains (direct_from s name [] (chain s region) ++ by_use_among s (round s name (chain s region)) ks) k
      in_visible k (inl is) =
          Contains-append_left (direct_from s name [] (chain s region)) (by_use_among s (round s name (chain s region)) ks) k
          (subst (λ rs. Contains (direct_from s name [] rs) k) (sym is.round)
          (in_direct [] is.inside is.at is.outside k (in_declared is.at k is.declared) (to_apart is.inside k is.unhidden)))
      in_visible k (inr is) =
          Contains-append_right (direct_from s name [] (chain s region)) (by_use_among s (round s name (chain s region)) ks) k (in_by_use k is)

-- ---- by a selected name

true_from : (s : Scopes) (place inside : ℕ) (c : Class) → opens s place inside c ≡ true → Opens s place inside c
true_from s place inside class.Library t = tt
true_from s place inside class.Package t = t
true_from s place inside class.UninstantiatedPackage t = t
true_from s place inside class.PackageInstance t = t
true_from s place inside class.RecordType t = t
true_from s place inside class.Entity t =
    let parts = and_parts _ _ t in (parts.0, found_in (chain s place) parts.1)
  where
    found_in : (rs : List ℕ) → list_any (λ r. r == inside) rs ≡ true → Contains rs inside
    found_in [] t = absurd (true≢false (sym t))
    found_in (r ∷ rs) t = elim (cases_Bool (r == inside)) [
      | inl here ↦ subst (Contains (r ∷ rs)) (eqb-true r inside here) (cons_here r rs)
      | inr other ↦ cons_there r rs inside (found_in rs (sym (rw other refl) ∙ t))
    ]
true_from s place inside _ t = absurd (true≢false (sym t))

to_true : (s : Scopes) (place inside : ℕ) (c : Class) → Opens s place inside c → opens s place inside c ≡ true
to_true s place inside class.Library o = refl
to_true s place inside class.Package o = o
to_true s place inside class.UninstantiatedPackage o = o
to_true s place inside class.PackageInstance o = o
to_true s place inside class.RecordType o = o
to_true s place inside class.Entity o = and_from _ _ o.0 (there (chain s place) o.1)
  where
    there : (rs : List ℕ) → Contains rs inside → list_any (λ r. r == inside) rs ≡ true
    there [] c = absurd (no_member inside c)
    there (r ∷ rs) c = elim (cons_cases r rs inside c) [
      | inl e ↦ let here : (r == inside) ≡ true = eq-eqb r inside e in rw here refl
      | inr rest ↦ elim (cases_Bool (r == inside)) [
        | inl here ↦ rw here refl
        | inr other ↦ rw other (there rs rest)
      ]
    ]
to_true s place inside _ o = absurd o

module _ (s : Scopes) (place prefix : ℕ) (name : List ℕ) where
  pub from_selected : (k : ℕ) → Contains (selected_from s place prefix name) k → IsSelected s place prefix name k
  from_selected k c = go (declaration_at s prefix).inside refl c
    where
      go : (inside : Option ℕ) → (declaration_at s prefix).inside ≡ inside
          → Contains (selected_in s place name (declaration_at s prefix).class inside) k → IsSelected s place prefix name k
      go None e c = absurd (no_member k c)
      go (Some r) e c = elim (cases_Bool (opens s place r (declaration_at s prefix).class)) [
        | inl t ↦ record {
          inside = r;
          region = e;
          opens = true_from s place r (declaration_at s prefix).class t;
          declared = from_declared s name r k (subst (λ zs. Contains zs k) (ap (λ b. if b then declared_in s name r else []) t) c);
        }
        | inr f ↦ absurd (no_member k (subst (λ zs. Contains zs k) (ap (λ b. if b then declared_in s name r else []) f) c))
      ]

  pub in_selected : (k : ℕ) → IsSelected s place prefix name k → Contains (selected_from s place prefix name) k
  in_selected k is =
      subst (λ o. Contains (selected_in s place name (declaration_at s prefix).class o) k) (sym is.region)
      (subst (λ zs. Contains zs k) (sym (ap (λ b. if b then declared_in s name is.inside else [])
      (to_true s place is.inside (declaration_at s prefix).class is.opens)))
      (in_declared s name is.inside k is.declared))
