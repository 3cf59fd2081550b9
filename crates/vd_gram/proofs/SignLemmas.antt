-- What the claims of a checked table say of derivations.
use Rattle.std.proofs.Common.{◌≡◌, ℕ, Bool, true, false, ◌||◌, not, nat_eq, List, [], ◌∷◌, ◌++◌, ◌⊎◌, inl, inr, if◌then◌else◌, Some, slice_get, refl, sym, ap, subst, ◌∙◌, append_assoc}
use Rattle.std.specs.List.{list_all}
use Rattle.std.proofs.lemmas.Bool.{and_parts, or_cases, or_left, or_right, and_from, false≢true, not-true, eqb-true, eq-eqb}
use Rattle.vd_gram.specs.declared.tables.Production.{Production}
use Rattle.vd_gram.specs.declared.tables.Table.{Table}
use Rattle.vd_gram.specs.Claims.{has, is_within, is_terminal, claim_of, first_claim, can_be_empty, first_of, firsts_of, follow_of, can_all_be_empty, is_claimed, is_known, is_closed_under, follows_are_closed, claims_are_closed, ranks_show, all_told_apart, is_checked}
use Rattle.vd_gram.specs.Derivations.{Trees, nothing, leaf, node, yield, Derive}
use Rattle.vd_gram.proofs.ListLemmas.{all_at}
use Rattle.vd_gram.proofs.ClaimLemmas.{has_append}

-- a symbol of a set that is within another
pub within_has : (xs ys : List ℕ) (x : ℕ) → is_within xs ys ≡ true → has xs x ≡ true → has ys x ≡ true
within_has [] ys x w h = absurd (false≢true h)
within_has (y ∷ xs) ys x w h =
    elim (or_cases (nat_eq y x) (has xs x) h) [
      | inl same ↦ subst (λ z. has ys z ≡ true) (eqb-true y x same) (and_parts _ _ w).0
      | inr more ↦ within_has xs ys x (and_parts _ _ w).1 more
    ]

module _ (t : Table) where
  -- ---- the first symbols of a list

  pub has_here : (s x : ℕ) (ss : List ℕ) → has (first_of t s) x ≡ true → has (firsts_of t (s ∷ ss)) x ≡ true
  has_here s x ss h = has_append (first_of t s) _ x ∙ or_left _ _ h

  pub has_later : (s x : ℕ) (ss : List ℕ) → can_be_empty t s ≡ true → has (firsts_of t ss) x ≡ true → has (firsts_of t (s ∷ ss)) x ≡ true
  has_later s x ss e h =
      has_append (first_of t s) _ x
      ∙ or_right _ _ (ap (λ b. has (if b then firsts_of t ss else []) x) e ∙ h)

  pub has_terminal : (s : ℕ) → is_terminal t s ≡ true → has (first_of t s) s ≡ true
  has_terminal s is = ap (λ b. has (if b then s ∷ [] else first_claim (claim_of t s)) s) is ∙ or_left _ _ (eq-eqb s s refl)

  pub has_claimed : (s x : ℕ) → is_terminal t s ≡ false → has (first_claim (claim_of t s)) x ≡ true → has (first_of t s) x ≡ true
  has_claimed s x is h = ap (λ b. has (if b then s ∷ [] else first_claim (claim_of t s)) x) is ∙ h

  -- ---- a checked table

  pub claimed_nonterminal : (s : ℕ) → is_claimed t s ≡ true → is_terminal t s ≡ false
  claimed_nonterminal s h = not-true _ (and_parts _ _ (and_parts _ _ h).0).0

  -- the parts of what is checked
  pub record Checks : Type 0 where
    pub closed : claims_are_closed t ≡ true
    pub ranks : ranks_show t ≡ true
    pub told : all_told_apart t t.productions.now ≡ true

  pub checks : is_checked t ≡ true → Checks
  unfolding is_checked
  checks h = let p = and_parts _ _ h in let q = and_parts _ _ p.0 in record { closed = q.0; ranks = q.1; told = p.1 }

  pub record IsClosed (p : Production) : Type 0 where
    pub left : is_claimed t p.left ≡ true
    pub known : list_all (is_known t) p.right.now ≡ true
    pub empty : can_all_be_empty t p.right.now ≡ true → can_be_empty t p.left ≡ true
    pub first : is_within (firsts_of t p.right.now) (first_claim (claim_of t p.left)) ≡ true
    pub follow : follows_are_closed t (follow_of t p.left) p.right.now ≡ true

  implied : (a b : Bool) → (not a || b) ≡ true → a ≡ true → b ≡ true
  implied true b h e = h
  implied false b h e = absurd (false≢true e)

  pub closed_under : (k : ℕ) (p : Production) → claims_are_closed t ≡ true → slice_get t.productions.now k ≡ Some p → IsClosed p
  closed_under k p h at =
      let all = (and_parts _ _ (and_parts _ _ h).0).1 in
      let one = and_parts _ _ (all_at (is_closed_under t) t.productions.now k p all at) in
      let names = and_parts _ _ one.0 in
      let sets = and_parts _ _ one.1 in
      let more = and_parts _ _ sets.0 in
      record { left = names.0; known = names.1; empty = implied _ _ more.0; first = more.1; follow = sets.1 }

  -- ---- what a text can begin with

  module _ (closed : claims_are_closed t ≡ true) where
    -- the text of some symbols, with more behind it, begins with x: either x is one of their first symbols, or they can all be
    -- empty and x is what stands behind
    pub begins : (ss : List ℕ) (f : Trees) (u rest : List ℕ) (x : ℕ) → Derive t ss f → yield f ++ u ≡ x ∷ rest
        → (has (firsts_of t ss) x ≡ true) ⊎ ((can_all_be_empty t ss ≡ true) × (u ≡ x ∷ rest))
    begins [] nothing u rest x df e = inr (refl, e)
    begins [] (leaf s p n) u rest x df e = absurd df
    begins [] (node k ps n) u rest x df e = absurd df
    begins (s ∷ ss) nothing u rest x df e = absurd df
    begins (s ∷ ss) (leaf s' p n) u rest x (is, same, dn) e =
        let is_x : s ≡ x = cc in inl (has_here s x ss (subst (λ z. has (first_of t s) z ≡ true) is_x (has_terminal s is)))
    begins (s ∷ ss) (node k ps n) u rest x (p, at, left, dp, dn) e =
        let c = closed_under k p closed at in
        let nonterminal : is_terminal t s ≡ false = subst (λ z. is_terminal t z ≡ false) left (claimed_nonterminal p.left c.left) in
        elim (begins p.right.now ps (yield n ++ u) rest x dp (sym (append_assoc (yield ps) (yield n) u) ∙ e)) [
          | inl h ↦ inl (has_here s x ss (has_claimed s x nonterminal (subst (λ z. has (first_claim (claim_of t z)) x ≡ true) left (within_has _ _ x c.first h))))
          | inr (h, e') ↦
              let empty : can_be_empty t s ≡ true = subst (λ z. can_be_empty t z ≡ true) left (c.empty h) in
              elim (begins ss n u rest x dn e') [
                | inl g ↦ inl (has_later s x ss empty g)
                | inr (g, e'') ↦ inr (and_from _ _ empty g, e'')
              ]
        ]
