-- A measure of the symbols to come that falls with each production that is put in the place of its left.
use Rattle.std.proofs.Common.{◌≡◌, ℕ, zero, suc, ◌+◌, ◌-◌, ◌<◌, ◌≤◌, Bool, true, false, ◌&&◌, ◌||◌, not, nat_eq, count_by, List, [], ◌∷◌, ◌++◌, inl, inr, if◌then◌else◌, Option, Some, None, slice_get, refl, sym, ap, subst, ◌∙◌, arith}
use Rattle.std.proofs.lemmas.Bool.{and_parts, or_cases, false≢true, eqb-true, eq-eqb, ltb-true, both_ways}
use Rattle.vd_gram.specs.declared.tables.Production.{Production}
use Rattle.vd_gram.specs.declared.tables.Claim.{Claim}
use Rattle.vd_gram.specs.declared.tables.Table.{Table}
use Rattle.vd_gram.specs.Claims.{is_terminal, is_nonterminal, claim_of, empty_claim, has_rank_below, has_lower_rank, can_be_empty, can_all_be_empty, is_of, fronts_are_lower, rank_shows, ranks_show, claims_are_closed}
use Rattle.vd_gram.specs.Runs.{IsChoice}
use Rattle.vd_gram.proofs.ListLemmas.{all_at, find_found, some_find}
use Rattle.vd_gram.proofs.SignLemmas.{closed_under, claimed_nonterminal}

implied : (a b : Bool) → (not a || b) ≡ true → a ≡ true → b ≡ true
implied true b h e = h
implied false b h e = absurd (false≢true e)

-- a number for each symbol
times : List ℕ → ℕ → ℕ
times [] n = 0
times (s ∷ ss) n = n + times ss n

all_times : List Production → ℕ → ℕ
all_times [] n = 0
all_times (p ∷ ps) n = times p.right.now n + all_times ps n

one_of_all : (ps : List Production) (k n : ℕ) (p : Production) → slice_get ps k ≡ Some p → times p.right.now n ≤ all_times ps n
unfolding all_times
one_of_all [] k n p at = absurd cc
one_of_all (q ∷ ps) zero n p at = let is : q ≡ p = cc in let e = ap (λ z. times z.right.now n) is in omega (arith, e)
one_of_all (q ∷ ps) (suc k) n p at = omega (arith, one_of_all ps k n p at)

module _ (t : Table) where
  -- what a nonterminal of a rank weighs: more than all symbols of a production that weigh less
  rank_weight : ℕ → ℕ
  rank_weight zero = 1
  rank_weight (suc r) = suc (rank_weight r + all_times t.productions.now (rank_weight r))

  rank_of : Option Claim → ℕ
  rank_of None = 0
  rank_of (Some c) = c.rank

  symbol_weight : ℕ → ℕ
  symbol_weight s = if is_terminal t s then 0 else rank_weight (rank_of (claim_of t s))

  -- the symbols up to the first that can't be empty
  pub weight : List ℕ → ℕ
  weight [] = 0
  weight (s ∷ ss) = symbol_weight s + (if can_be_empty t s then weight ss else 0)

  rising : (r n : ℕ) → rank_weight r ≤ rank_weight (r + n)
  unfolding rank_weight
  rising r zero = let e : r + 0 ≡ r = omega arith in let f = ap rank_weight e in omega (arith, f)
  rising r (suc n) = let e : r + suc n ≡ suc (r + n) = omega arith in let f : rank_weight (r + suc n) ≡ suc (rank_weight (r + n) + all_times t.productions.now (rank_weight (r + n))) = ap rank_weight e in omega (arith, f, rising r n)

  rises : (r s : ℕ) → r ≤ s → rank_weight r ≤ rank_weight s
  rises r s le = let e : r + (s - r) ≡ s = omega (arith, le) in let f = ap rank_weight e in omega (arith, f, rising r (s - r))

  -- symbols in front that are of lower ranks weigh less than the rank
  light : (r : ℕ) (s : ℕ) → (is_terminal t s || has_lower_rank t (suc r) s) ≡ true → symbol_weight s ≤ rank_weight r
  unfolding symbol_weight rank_of
  light r s h = go (is_terminal t s) refl
    where
      below : (o : Option Claim) → has_rank_below (suc r) o ≡ true → rank_weight (rank_of o) ≤ rank_weight r
      below None e = absurd (false≢true e)
      below (Some c) e = let lt = ltb-true _ _ e in rises c.rank r (omega (arith, lt))

      go : (b : Bool) → is_terminal t s ≡ b → symbol_weight s ≤ rank_weight r
      go true e = let z : symbol_weight s ≡ 0 = ap (λ b. if b then 0 else rank_weight (rank_of (claim_of t s))) e in omega (arith, z)
      go false e =
          let z : symbol_weight s ≡ rank_weight (rank_of (claim_of t s)) = ap (λ b. if b then 0 else rank_weight (rank_of (claim_of t s))) e in
          let lower : has_lower_rank t (suc r) s ≡ true = elim (or_cases (is_terminal t s) (has_lower_rank t (suc r) s) h) [ inl g ↦ absurd (both_ways _ e g) | inr g ↦ g ] in
          let low = below (claim_of t s) (and_parts (is_nonterminal t s) _ lower).1 in
          omega (arith, z, low)

  rest_weight : Bool → List ℕ → ℕ
  rest_weight b us = if b then weight us else 0

  none_lower : (s : ℕ) → has_lower_rank t 0 s ≡ true → ⊥
  none_lower s h = go (claim_of t s) (and_parts (is_nonterminal t s) _ h).1
    where
      go : (o : Option Claim) → has_rank_below 0 o ≡ true → ⊥
      go None e = false≢true e
      go (Some c) e = let lt = ltb-true _ _ e in omega (arith, lt)

  -- what stands in the place of a nonterminal of the rank 0 begins with a terminal, or is nothing
  front_none : (ss us : List ℕ) → fronts_are_lower t 0 ss ≡ true → weight (ss ++ us) ≤ rest_weight (can_all_be_empty t ss) us
  unfolding weight symbol_weight rest_weight
  front_none [] us l = omega arith
  front_none (s ∷ ss) us l =
      let terminal : is_terminal t s ≡ true = elim (or_cases (is_terminal t s) (has_lower_rank t 0 s) (and_parts _ _ l).0) [ inl g ↦ g | inr g ↦ absurd (none_lower s g) ] in
      let z : ◌≡◌ {A = ℕ} (if is_terminal t s then 0 else rank_weight (rank_of (claim_of t s))) 0 = ap (λ b. if b then 0 else rank_weight (rank_of (claim_of t s))) terminal in
      let full : can_be_empty t s ≡ false = ap (λ b. not b && empty_claim (claim_of t s)) terminal in
      let y : ◌≡◌ {A = ℕ} (if can_be_empty t s then weight (ss ++ us) else 0) 0 = ap (λ b. if b then weight (ss ++ us) else 0) full in
      omega (arith, z, y)

  front_some : (r : ℕ) (ss us : List ℕ) → fronts_are_lower t (suc r) ss ≡ true
      → weight (ss ++ us) ≤ times ss (rank_weight r) + rest_weight (can_all_be_empty t ss) us
  unfolding weight rest_weight times
  front_some r [] us l = omega arith
  front_some r (s ∷ ss) us l =
      let parts = and_parts (is_terminal t s || has_lower_rank t (suc r) s) (not (can_be_empty t s) || fronts_are_lower t (suc r) ss) l in
      go (can_be_empty t s) refl (light r s parts.0) (λ e. front_some r ss us (implied (can_be_empty t s) (fronts_are_lower t (suc r) ss) parts.1 e))
    where
      go : (b : Bool) → can_be_empty t s ≡ b → symbol_weight s ≤ rank_weight r
          → (can_be_empty t s ≡ true → weight (ss ++ us) ≤ times ss (rank_weight r) + rest_weight (can_all_be_empty t ss) us)
          → weight ((s ∷ ss) ++ us) ≤ times (s ∷ ss) (rank_weight r) + rest_weight (can_all_be_empty t (s ∷ ss)) us
      go true e low again =
          let y : ◌≡◌ {A = ℕ} (if can_be_empty t s then weight (ss ++ us) else 0) (weight (ss ++ us)) = ap (λ b. if b then weight (ss ++ us) else 0) e in
          let x : rest_weight (can_all_be_empty t (s ∷ ss)) us ≡ rest_weight (can_all_be_empty t ss) us = ap (λ b. rest_weight (b && can_all_be_empty t ss) us) e in
          let z = again e in
          omega (arith, y, x, z, low)
      go false e low again =
          let y : ◌≡◌ {A = ℕ} (if can_be_empty t s then weight (ss ++ us) else 0) 0 = ap (λ b. if b then weight (ss ++ us) else 0) e in
          omega (arith, y, low)

  -- a production weighs less than its left
  module _ (closed : claims_are_closed t ≡ true) (ranks : ranks_show t ≡ true) where
    pub lighter : (s sign k : ℕ) (us : List ℕ) → (c : IsChoice t s sign k) → weight (c.chosen.right.now ++ us) < weight (s ∷ us)
    unfolding weight symbol_weight rest_weight rank_of rank_weight
    lighter s sign k us c =
        let p = c.chosen in
        let under = closed_under t k p closed c.at in
        let claim = some_find (λ c. nat_eq c.symbol p.left) t.claims.now 0 (eqb-true (count_by (λ c. nat_eq c.symbol p.left) t.claims.now) 1 (and_parts (is_nonterminal t p.left) _ under.left).1) in
        let found = find_found (λ c. nat_eq c.symbol p.left) t.claims.now claim.0 claim.1 in
        let shows = and_parts _ _ (and_parts _ _ (all_at (rank_shows t) t.claims.now found.place claim.0 ranks found.at)).0 in
        let of : is_of claim.0 p ≡ true = eq-eqb p.left claim.0.symbol (sym (eqb-true claim.0.symbol p.left found.passes)) in
        let lower : fronts_are_lower t claim.0.rank p.right.now ≡ true = implied (is_of claim.0 p) (fronts_are_lower t claim.0.rank p.right.now) (all_at (λ p. not (is_of claim.0 p) || fronts_are_lower t claim.0.rank p.right.now) t.productions.now k p shows.0 c.at) of in
        let is : claim_of t s ≡ Some claim.0 = subst (λ z. claim_of t z ≡ Some claim.0) c.left claim.1 in
        let nonterminal : is_terminal t s ≡ false = subst (λ z. is_terminal t z ≡ false) c.left (claimed_nonterminal t p.left under.left) in
        let own : ◌≡◌ {A = ℕ} (if is_terminal t s then 0 else rank_weight (rank_of (claim_of t s))) (rank_weight claim.0.rank) =
        ap (λ b. if b then 0 else rank_weight (rank_of (claim_of t s))) nonterminal ∙ ap (λ o. rank_weight (rank_of o)) is in
        let empty : can_all_be_empty t p.right.now ≡ true → can_be_empty t s ≡ true = λ e. subst (λ z. can_be_empty t z ≡ true) c.left (under.empty e) in
        go claim.0.rank p lower c.at own (rest_less (can_all_be_empty t p.right.now) (can_be_empty t s) empty)
      where
        rest_less : (a b : Bool) → (a ≡ true → b ≡ true) → rest_weight a us ≤ rest_weight b us
        rest_less true true h = omega arith
        rest_less true false h = absurd (false≢true (h refl))
        rest_less false b h = omega arith

        go : (r : ℕ) (p : Production) → fronts_are_lower t r p.right.now ≡ true → slice_get t.productions.now k ≡ Some p
            → symbol_weight s ≡ rank_weight r → rest_weight (can_all_be_empty t p.right.now) us ≤ rest_weight (can_be_empty t s) us
            → weight (p.right.now ++ us) < weight (s ∷ us)
        go zero p lower at own less = omega (arith, front_none p.right.now us lower, own, less)
        go (suc r) p lower at own less =
            omega (arith, front_some r p.right.now us lower, one_of_all t.productions.now k (rank_weight r) p at, own, less)
