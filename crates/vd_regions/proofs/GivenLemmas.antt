-- What use clauses give, by the regions that declare a name.
use Rattle.std.proofs.Common.{◌≡◌, ◌<◌, ◌==◌, ◌&&◌, ℕ, inl, inr, true, IsTrue, List, [], length, if◌then◌else◌, refl, sym, ap, subst}
use Rattle.std.specs.List.{Contains, flat_map}
use Rattle.std.proofs.lemmas.Bool.{cases_Bool, and_parts, and_from, eqb-true, eq-eqb}
use Rattle.vd_regions.specs.Scopes.{Scopes, Clause, region_at, entered_at, declaration_at}
use Rattle.vd_regions.specs.Found.{declared_in, means, given_by, given, gives_name, is_given_by, is_given, given_from, given_among}
use Rattle.vd_regions.specs.Visible.{IsDeclared}
use Rattle.vd_regions.proofs.MemberLemmas.{no_member, from_any, in_any, in_flat_map, from_flat_map}
use Rattle.vd_regions.proofs.VisibleLemmas.{from_declared, in_declared, from_means, to_means, from_given_by, in_given_by}

module _ (s : Scopes) (name regions : List ℕ) where
  pub from_among : (froms : List ℕ) (k : ℕ) → Contains (given_among s name regions froms) k → Contains (given s name regions) k
  from_among froms k c =
      let at = from_flat_map (given_from s name regions) froms k c in
      go at.0 at.2
    where
      go : (from : ℕ) → Contains (given_from s name regions from) k → Contains (given s name regions) k
      go from here = elim (cases_Bool ((region_at s from).closed && is_given s name regions from)) [
        | inr f ↦ absurd (no_member k (subst (λ zs. Contains zs k) (ap (λ b. if b then declared_in s name from else []) f) here))
        | inl t ↦
            let parts = and_parts (region_at s from).closed (is_given s name regions from) t in
            let region = from_any (λ r. is_given_by (region_at s r).uses name from) regions parts.1 in
            let clause = from_any (gives_name name from) (region_at s region.0).uses region.1.1 in
            let both = and_parts (clause.0.from == from) (means clause.0.name name) clause.1.1 in
            let same : clause.0.from ≡ from = eqb-true clause.0.from from both.0 in
            let declared : IsDeclared s from name k =
            from_declared s name from k (subst (λ zs. Contains zs k) (ap (λ b. if b then declared_in s name from else []) t) here) in
            in_flat_map (λ r. flat_map (given_by s name) (region_at s r).uses) regions region.0 k region.1.0
            (in_flat_map (given_by s name) (region_at s region.0).uses clause.0 k clause.1.0
            (in_given_by s name clause.0 k (subst (λ f. IsTrue (region_at s f).closed) (sym same) parts.0) (from_means s name clause.0.name both.1)
            (subst (λ f. IsDeclared s f name k) (sym same) declared)))
      ]

  -- where these have each region that declares the name
  pub in_among : (froms : List ℕ) → ((k : ℕ) → k < length s.entered → (declaration_at s k).name ≡ name → Contains froms (entered_at s k).region)
      → (k : ℕ) → Contains (given s name regions) k → Contains (given_among s name regions froms) k
  in_among froms all k c =
      let at = from_flat_map (λ r. flat_map (given_by s name) (region_at s r).uses) regions k c in
      let by = from_flat_map (given_by s name) (region_at s at.0).uses k at.2 in
      let is = from_given_by s name by.0 k by.2 in
      let clause : Clause = by.0 in
      let test : ((region_at s clause.from).closed && is_given s name regions clause.from) ≡ true =
      and_from _ _ is.0 (in_any (λ r. is_given_by (region_at s r).uses name clause.from) regions at.0 at.1
      (in_any (gives_name name clause.from) (region_at s at.0).uses clause by.1
      (and_from (clause.from == clause.from) (means clause.name name) (eq-eqb clause.from clause.from refl) (to_means s name clause.name is.1)))) in
      in_flat_map (given_from s name regions) froms clause.from k
      (subst (Contains froms) is.2.entered.here (all k is.2.entered.known is.2.entered.named))
      (subst (λ zs. Contains zs k) (sym (ap (λ b. if b then declared_in s name clause.from else []) test)) (in_declared s name clause.from k is.2))
