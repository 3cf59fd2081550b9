-- The ranks of a checked table show that each of its symbols has a derivation, and one of the empty text where that is claimed.
use Rattle.std.proofs.Common.{◌≡◌, ℕ, zero, suc, ◌<◌, ◌≤◌, Bool, true, false, ◌||◌, not, nat_eq, List, [], ◌∷◌, ◌++◌, inl, inr, Option, Some, None, count_by, refl, sym, ap, ◌∙◌, arith}
use Rattle.std.specs.List.{list_all}
use Rattle.std.proofs.lemmas.Bool.{and_parts, or_cases, false≢true, not-true, eqb-true, ltb-true}
use Rattle.vd_gram.specs.declared.tables.Claim.{Claim}
use Rattle.vd_gram.specs.declared.tables.Table.{Table}
use Rattle.vd_gram.specs.Claims.{is_terminal, is_nonterminal, claim_of, empty_claim, has_rank_below, has_lower_rank, can_be_empty, can_all_be_empty, is_claimed, is_known, is_of, fronts_are_lower, is_shown, rank_shows, ranks_show}
use Rattle.vd_gram.specs.Derivations.{Trees, nothing, leaf, node, yield, Derive, joined}
use Rattle.std.proofs.lemmas.List.{append-nil}
use Rattle.vd_gram.proofs.DerivationLemmas.{Derive-joined, yield-joined}
use Rattle.vd_gram.proofs.ListLemmas.{all_at, any_found, find_found, some_find}

implied : (a b : Bool) → (not a || b) ≡ true → a ≡ true → b ≡ true
implied true b h e = h
implied false b h e = absurd (false≢true e)

module _ (t : Table) (ranks : ranks_show t ≡ true) where
  -- a derivation of the symbols
  pub record Derivable (ss : List ℕ) : Type 0 where
    pub trees : Trees
    pub derived : Derive t ss trees

  -- one of the empty text
  pub record DerivableEmpty (ss : List ℕ) : Type 0 where
    pub trees : Trees
    pub derived : Derive t ss trees
    pub empty : yield trees ≡ []

  -- a nonterminal's claim
  record IsClaim (s : ℕ) (c : Claim) : Type 0 where
    pub is : claim_of t s ≡ Some c
    pub symbol : c.symbol ≡ s
    pub shows : rank_shows t c ≡ true

  claim_found : (s : ℕ) (c : Claim) → claim_of t s ≡ Some c → IsClaim s c
  claim_found s c e =
      let f = find_found (λ c. nat_eq c.symbol s) t.claims.now c e in
      record { is = e; symbol = eqb-true c.symbol s f.passes; shows = all_at (rank_shows t) t.claims.now f.place c ranks f.at }

  -- a symbol of a lower rank has a claim
  record IsLower (r s : ℕ) : Type 0 where
    pub claim : Claim
    pub of : IsClaim s claim
    pub lower : claim.rank < r

  lower_claim : (r s : ℕ) → has_lower_rank t r s ≡ true → IsLower r s
  lower_claim r s h = go (claim_of t s) refl (and_parts _ _ h).1
    where
      go : (o : Option Claim) → claim_of t s ≡ o → has_rank_below r o ≡ true → IsLower r s
      go None e h = absurd (false≢true h)
      go (Some c) e h = record { claim = c; of = claim_found s c e; lower = ltb-true _ _ h }

  -- what a claim says of being empty
  claim_empty : (s : ℕ) (c : Claim) → claim_of t s ≡ Some c → can_be_empty t s ≡ true → c.empty ≡ true
  claim_empty s c e h = sym (ap empty_claim e) ∙ (and_parts _ _ h).1

  -- ---- the empty text

  empties : (n r : ℕ) (each : (s : ℕ) (c : Claim) → IsClaim s c → c.rank < n → c.empty ≡ true → DerivableEmpty (s ∷ []))
      → r ≤ n → (ss : List ℕ) → can_all_be_empty t ss ≡ true → fronts_are_lower t r ss ≡ true → DerivableEmpty ss
  empties n r each within [] e l = record { trees = nothing; derived = tt; empty = refl }
  empties n r each within (s ∷ ss) e l =
      let one = and_parts _ _ e in
      let two = and_parts _ _ l in
      let nonterminal = not-true _ (and_parts _ _ one.0).0 in
      let below : has_lower_rank t r s ≡ true = elim (or_cases (is_terminal t s) (has_lower_rank t r s) two.0) [ inl h ↦ absurd (false≢true (sym nonterminal ∙ h)) | inr h ↦ h ] in
      let low = lower_claim r s below in
      let f = each s low.claim low.of (omega (arith, low.lower)) (claim_empty s low.claim low.of.is one.0) in
      let g = empties n r each within ss one.1 (implied _ _ two.1 one.0) in
      both f g
    where
      both : DerivableEmpty (s ∷ []) → DerivableEmpty ss → DerivableEmpty (s ∷ ss)
      both f g = record { trees = joined f.trees g.trees; derived = Derive-joined t (s ∷ []) ss f.trees g.trees f.derived g.derived; empty = yield-joined f.trees g.trees ∙ ap (λ l. l ++ yield g.trees) f.empty ∙ g.empty }

  empty_text : (n s : ℕ) (c : Claim) → IsClaim s c → c.rank < n → c.empty ≡ true → DerivableEmpty (s ∷ [])
  empty_text zero s c is low e = absurd (omega (arith, low))
  empty_text (suc n) s c is low e =
      let parts = and_parts _ _ is.shows in
      let f = any_found _ t.productions.now (implied _ _ parts.1 e) in
      let of = and_parts _ _ f.passes in
      let left : f.value.left ≡ c.symbol = eqb-true _ _ of.0 in
      let lower = implied _ _ (all_at (λ p. not (is_of c p) || fronts_are_lower t c.rank p.right.now) t.productions.now f.place f.value (and_parts _ _ parts.0).0 f.at) of.0 in
      let g = empties n c.rank (empty_text n) (omega (arith, low)) f.value.right.now of.1 lower in
      record { trees = node f.place g.trees nothing; derived = (f.value, f.at, left ∙ is.symbol, g.derived, tt); empty = append-nil (yield g.trees) ∙ g.empty }

  -- ---- some text

  shown : (n r : ℕ) (each : (s : ℕ) (c : Claim) → IsClaim s c → c.rank < n → Derivable (s ∷ [])) → r ≤ n
      → (ss : List ℕ) → list_all (is_shown t r) ss ≡ true → Derivable ss
  shown n r each within [] h = record { trees = nothing; derived = tt }
  shown n r each within (s ∷ ss) h =
      let one = and_parts _ _ h in
      both (elim (or_cases _ _ one.0) [
        | inl h ↦ elim (or_cases _ _ h) [ inl g ↦ record { trees = leaf s 0 nothing; derived = (g, refl, tt) } | inr g ↦ an_empty (claim_of t s) refl g ]
        | inr h ↦ let low = lower_claim r s h in each s low.claim low.of (omega (arith, low.lower))
      ]) (shown n r each within ss one.1)
    where
      an_empty : (o : Option Claim) → claim_of t s ≡ o → can_be_empty t s ≡ true → Derivable (s ∷ [])
      an_empty None e g = absurd (false≢true (sym (ap empty_claim e) ∙ (and_parts _ _ g).1))
      an_empty (Some c) e g = let f = empty_text (suc c.rank) s c (claim_found s c e) (omega arith) (claim_empty s c e g) in record { trees = f.trees; derived = f.derived }

      both : Derivable (s ∷ []) → Derivable ss → Derivable (s ∷ ss)
      both f g = record { trees = joined f.trees g.trees; derived = Derive-joined t (s ∷ []) ss f.trees g.trees f.derived g.derived }

  some_text : (n s : ℕ) (c : Claim) → IsClaim s c → c.rank < n → Derivable (s ∷ [])
  some_text zero s c is low = absurd (omega (arith, low))
  some_text (suc n) s c is low =
      let within : c.rank ≤ n = omega (arith, low) in
      let parts = and_parts _ _ is.shows in
      let f = any_found _ t.productions.now (and_parts _ _ parts.0).1 in
      let of = and_parts _ _ f.passes in
      let left : f.value.left ≡ c.symbol = eqb-true _ _ of.0 in
      let g = shown n c.rank (some_text n) within f.value.right.now of.1 in
      record { trees = node f.place g.trees nothing; derived = (f.value, f.at, left ∙ is.symbol, g.derived, tt) }

  claimed : (s : ℕ) → is_claimed t s ≡ true → Derivable (s ∷ [])
  claimed s h = let f = some_find (λ c. nat_eq c.symbol s) t.claims.now 0 (eqb-true (count_by (λ c. nat_eq c.symbol s) t.claims.now) 1 (and_parts (is_nonterminal t s) _ h).1) in some_text (suc f.0.rank) s f.0 (claim_found s f.0 f.1) (omega arith)

  -- so known symbols have a derivation
  pub derivable : (ss : List ℕ) → list_all (is_known t) ss ≡ true → Derivable ss
  derivable [] h = record { trees = nothing; derived = tt }
  derivable (s ∷ ss) h =
      let one = and_parts _ _ h in
      both (elim (or_cases _ _ one.0) [ inl g ↦ record { trees = leaf s 0 nothing; derived = (g, refl, tt) } | inr g ↦ claimed s g ]) (derivable ss one.1)
    where
      both : Derivable (s ∷ []) → Derivable ss → Derivable (s ∷ ss)
      both f g = record { trees = joined f.trees g.trees; derived = Derive-joined t (s ∷ []) ss f.trees g.trees f.derived g.derived }
