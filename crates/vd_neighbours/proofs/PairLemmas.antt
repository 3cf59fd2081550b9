-- Symbols side by side in the texts of a grammar whose claims are closed.
use Rattle.std.proofs.Common.{◌≡◌, ℕ, Bool, true, false, not, ◌&&◌, ◌||◌, ◌⊎◌, ⊎_elim, inl, inr, nat_eq, List, [], ◌∷◌, ◌++◌, append_assoc, Some, refl, sym, ap, subst, ◌∙◌}
use Rattle.std.specs.List.{list_all}
use Rattle.std.proofs.lemmas.Bool.{and_parts, or_cases, eqb-true, true≢false}
use Rattle.vd_gram.specs.declared.tables.Production.{Production}
use Rattle.vd_gram.specs.declared.tables.Table.{Table}
use Rattle.vd_gram.specs.Claims.{has, is_within, is_terminal, firsts_of, follow_of, can_all_be_empty, follow_is_closed, follows_are_closed, claims_are_closed}
use Rattle.vd_gram.specs.Derivations.{Trees, nothing, leaf, node, yield, Derive}
use Rattle.vd_gram.proofs.ListLemmas.{all_at}
use Rattle.vd_gram.proofs.SignLemmas.{within_has, claimed_nonterminal, closed_under, begins}
use Rattle.vd_neighbours.specs.Pairs.{ArePairs, fits_before, pairs_fit, all_pairs_fit}

-- what holds of each element of a set
pub all_has : (p : ℕ → Bool) (xs : List ℕ) (x : ℕ) → list_all p xs ≡ true → has xs x ≡ true → p x ≡ true
all_has p [] x h k = absurd (true≢false (sym k))
all_has p (y ∷ xs) x h k =
    let q = and_parts (p y) (list_all p xs) h in
    ⊎_elim (λ e. subst (λ z. p z ≡ true) (eqb-true y x e) q.0) (λ e. all_has p xs x q.1 e) (or_cases (nat_eq y x) (has xs x) k)

implied : (a b : Bool) → (not a || b) ≡ true → a ≡ true → b ≡ true
implied true b h e = h
implied false b h e = absurd (true≢false (sym e))

other : (a b : Bool) → (a || b) ≡ true → a ≡ false → b ≡ true
other true b h e = absurd (true≢false e)
other false b h e = h

-- nothing, or what begins with a symbol of the set
abbrev pub StartsIn : List ℕ → List ℕ → Type 0
StartsIn after [] = Unit {0}
StartsIn after (x ∷ xs) = has after x ≡ true

starts : (after xs : List ℕ) → ((x : ℕ) (ys : List ℕ) → xs ≡ x ∷ ys → has after x ≡ true) → StartsIn after xs
starts after [] h = tt
starts after (x ∷ xs) h = h x xs refl

starts_there : (after xs : List ℕ) (x : ℕ) (ys : List ℕ) → StartsIn after xs → xs ≡ x ∷ ys → has after x ≡ true
starts_there after [] x ys h e = absurd (no_list e)
  where
    no_list : [] ≡ x ∷ ys → ⊥
    no_list f = cc
starts_there after (z ∷ xs) x ys h e = subst (λ y. has after y ≡ true) (same e) h
  where
    same : z ∷ xs ≡ x ∷ ys → z ≡ x
    same f = cc

module _ (ok : ℕ → ℕ → Bool) where
  pair_front : (a : ℕ) (xs : List ℕ) → ArePairs ok xs → ((x : ℕ) (ys : List ℕ) → xs ≡ x ∷ ys → ok a x ≡ true) → ArePairs ok (a ∷ xs)
  pair_front a [] h k = tt
  pair_front a (x ∷ xs) h k = (k x xs refl, h)

  module _ (t : Table) (closed : claims_are_closed t ≡ true) (fit : all_pairs_fit t ok ≡ true) where
    -- the first symbol behind some symbols can stand behind the one in front of them
    next_has : (after ss : List ℕ) (f : Trees) (rest : List ℕ) (s x : ℕ) (ys : List ℕ) → Derive t ss f → is_terminal t s ≡ false → follow_is_closed t after s ss ≡ true → StartsIn after rest → yield f ++ rest ≡ x ∷ ys
        → has (follow_of t s) x ≡ true
    next_has after ss f rest s x ys d nonterminal c st e =
        let q = and_parts (is_within (firsts_of t ss) (follow_of t s)) (not (can_all_be_empty t ss) || is_within after (follow_of t s)) (other (is_terminal t s) _ c nonterminal) in
        ⊎_elim (λ h. within_has (firsts_of t ss) (follow_of t s) x q.0 h)
        (λ h. within_has after (follow_of t s) x (implied (can_all_be_empty t ss) _ q.1 h.0) (starts_there after rest x ys st h.1))
        (begins t closed ss f rest ys x d e)

    next_fits : (after ss : List ℕ) (f : Trees) (rest : List ℕ) (s x : ℕ) (ys : List ℕ) → Derive t ss f → is_terminal t s ≡ true → fits_before t ok after s ss ≡ true → StartsIn after rest → yield f ++ rest ≡ x ∷ ys
        → ok s x ≡ true
    next_fits after ss f rest s x ys d terminal p st e =
        let q = and_parts (list_all (ok s) (firsts_of t ss)) (not (can_all_be_empty t ss) || list_all (ok s) after) (implied (is_terminal t s) _ p terminal) in
        ⊎_elim (λ h. all_has (ok s) (firsts_of t ss) x q.0 h)
        (λ h. all_has (ok s) after x (implied (can_all_be_empty t ss) _ q.1 h.0) (starts_there after rest x ys st h.1))
        (begins t closed ss f rest ys x d e)

    pub chain : (ss : List ℕ) (f : Trees) (after rest : List ℕ) → Derive t ss f → pairs_fit t ok after ss ≡ true → follows_are_closed t after ss ≡ true → StartsIn after rest → ArePairs ok rest → ArePairs ok (yield f ++ rest)
    chain [] nothing after rest d p c st r = r
    chain [] (leaf s' place n) after rest d p c st r = absurd d
    chain [] (node k ps n) after rest d p c st r = absurd d
    chain (s ∷ ss) nothing after rest d p c st r = absurd d
    chain (s ∷ ss) (leaf s' place n) after rest (is, same, dn) p c st r =
        let q = and_parts (fits_before t ok after s ss) (pairs_fit t ok after ss) p in
        let k = and_parts (follow_is_closed t after s ss) (follows_are_closed t after ss) c in
        pair_front s' (yield n ++ rest) (chain ss n after rest dn q.1 k.1 st r)
        (λ x ys e. subst (λ z. ok z x ≡ true) (sym same) (next_fits after ss n rest s x ys dn is q.0 st e))
    chain (s ∷ ss) (node number ps n) after rest (p, at, left, dp, dn) fits c st r =
        let q = and_parts (fits_before t ok after s ss) (pairs_fit t ok after ss) fits in
        let k = and_parts (follow_is_closed t after s ss) (follows_are_closed t after ss) c in
        let u = closed_under t number p closed at in
        let nonterminal : is_terminal t s ≡ false = subst (λ z. is_terminal t z ≡ false) left (claimed_nonterminal t p.left u.left) in
        let behind = yield n ++ rest in
        let first : StartsIn (follow_of t p.left) behind =
        starts (follow_of t p.left) behind (λ x ys e. subst (λ z. has (follow_of t z) x ≡ true) (sym left) (next_has after ss n rest s x ys dn nonterminal k.0 st e)) in
        let right = all_at (λ (o : Production). pairs_fit t ok (follow_of t o.left) o.right.now) t.productions.now number p fit at in
        subst (ArePairs ok) (sym (append_assoc (yield ps) (yield n) rest)) (chain p.right.now ps (follow_of t p.left) behind dp right u.follow first (chain ss n after rest dn q.1 k.1 st r))
