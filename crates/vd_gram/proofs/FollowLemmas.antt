-- What can stand behind the symbols that a reader still waits for, and that one symbol tells which production comes next.
use Rattle.std.proofs.Common.{◌≡◌, ℕ, zero, suc, Bool, true, false, ◌&&◌, ◌||◌, not, nat_eq, List, [], ◌∷◌, ◌++◌, ◌⊎◌, inl, inr, if◌then◌else◌, Some, slice_get, refl, sym, ap, subst, ◌∙◌, append_assoc}
use Rattle.std.specs.List.{list_all}
use Rattle.std.proofs.lemmas.Bool.{and_parts, or_cases, or_left, or_right, and_from, false≢true, not-true, eqb-true, eq-eqb, both_ways}
use Rattle.vd_gram.specs.declared.tables.Production.{Production}
use Rattle.vd_gram.specs.declared.tables.Table.{Table}
use Rattle.vd_gram.specs.Claims.{has, is_within, is_apart, is_terminal, can_be_empty, first_of, firsts_of, follow_of, signs_of, can_all_be_empty, follows_are_closed, claims_are_closed, are_told_apart, all_told_apart, end_symbol}
use Rattle.vd_gram.specs.Derivations.{Trees, node, yield, Derive, with_end}
use Rattle.vd_gram.specs.Runs.{behind, AreFollowed, IsChoice}
use Rattle.vd_gram.proofs.ListLemmas.{all_at}
use Rattle.vd_gram.proofs.ClaimLemmas.{has_append}
use Rattle.vd_gram.proofs.SignLemmas.{within_has, has_here, has_later, begins, closed_under}

implied : (a b : Bool) → (not a || b) ≡ true → a ≡ true → b ≡ true
implied true b h e = h
implied false b h e = absurd (false≢true e)

module _ (t : Table) where
  -- the two parts of what can stand behind
  pub behind_first : (ss : List ℕ) (x : ℕ) → has (firsts_of t ss) x ≡ true → has (behind t ss) x ≡ true
  behind_first ss x h = has_append (firsts_of t ss) _ x ∙ or_left _ _ h

  pub behind_end : (ss : List ℕ) → can_all_be_empty t ss ≡ true → has (behind t ss) end_symbol ≡ true
  behind_end ss h =
      has_append (firsts_of t ss) _ end_symbol
      ∙ or_right _ _ (ap (λ b. has (if b then end_symbol ∷ [] else []) end_symbol) h)

  -- what stands behind an empty symbol
  pub behind_skip : (s x : ℕ) (ss : List ℕ) → can_be_empty t s ≡ true → has (behind t ss) x ≡ true → has (behind t (s ∷ ss)) x ≡ true
  behind_skip s x ss e h =
      elim (or_cases (has (firsts_of t ss) x) (has (if can_all_be_empty t ss then end_symbol ∷ [] else []) x) (sym (has_append (firsts_of t ss) _ x) ∙ h)) [
        | inl g ↦ behind_first (s ∷ ss) x (has_later t s x ss e g)
        | inr g ↦
            has_append (firsts_of t (s ∷ ss)) _ x
            ∙ or_right _ _ (ap (λ b. has (if b && can_all_be_empty t ss then end_symbol ∷ [] else []) x) e ∙ g)
      ]

  abbrev Further : (ss us : List ℕ) (x : ℕ) → Type 0
  Further ss us x =
      has (behind t (ss ++ us)) x ≡ true → (has (firsts_of t ss) x ≡ true) ⊎ ((can_all_be_empty t ss ≡ true) × (has (behind t us) x ≡ true))

  -- what can stand behind two lists of symbols: what the first can begin with or, where it can be empty, what can stand
  -- behind the second
  pub behind_append : (ss us : List ℕ) (x : ℕ) → has (behind t (ss ++ us)) x ≡ true
      → (has (firsts_of t ss) x ≡ true) ⊎ ((can_all_be_empty t ss ≡ true) × (has (behind t us) x ≡ true))
  behind_append [] us x h = inr (refl, h)
  behind_append (s ∷ ss) us x h =
      elim (or_cases (has (firsts_of t ((s ∷ ss) ++ us)) x) (has (if can_all_be_empty t ((s ∷ ss) ++ us) then end_symbol ∷ [] else []) x) (sym (has_append (firsts_of t ((s ∷ ss) ++ us)) _ x) ∙ h)) [
        | inl g ↦
            elim (or_cases (has (first_of t s) x) (has (if can_be_empty t s then firsts_of t (ss ++ us) else []) x) (sym (has_append (first_of t s) _ x) ∙ g)) [
              | inl here ↦ inl (has_here t s x ss here)
              | inr later ↦ on_later (λ g. behind_append ss us x g) (can_be_empty t s) refl later
            ]
        | inr g ↦ on_end (λ g. behind_append ss us x g) (can_be_empty t s) refl g
      ]
    where
      go_on : Further ss us x → can_be_empty t s ≡ true → has (behind t (ss ++ us)) x ≡ true
          → (has (firsts_of t (s ∷ ss)) x ≡ true) ⊎ ((can_all_be_empty t (s ∷ ss) ≡ true) × (has (behind t us) x ≡ true))
      go_on again e g =
          elim (again g) [
            | inl k ↦ inl (has_later t s x ss e k)
            | inr (k, l) ↦ inr (and_from _ _ e k, l)
          ]

      on_later : Further ss us x → (e : Bool) → can_be_empty t s ≡ e → has (if e then firsts_of t (ss ++ us) else []) x ≡ true
          → (has (firsts_of t (s ∷ ss)) x ≡ true) ⊎ ((can_all_be_empty t (s ∷ ss) ≡ true) × (has (behind t us) x ≡ true))
      on_later again true e g = go_on again e (behind_first (ss ++ us) x g)
      on_later again false e g = absurd (false≢true g)

      on_end : Further ss us x → (e : Bool) → can_be_empty t s ≡ e → has (if e && can_all_be_empty t (ss ++ us) then end_symbol ∷ [] else []) x ≡ true
          → (has (firsts_of t (s ∷ ss)) x ≡ true) ⊎ ((can_all_be_empty t (s ∷ ss) ≡ true) × (has (behind t us) x ≡ true))
      on_end again true e g = go_on again e (has_append (firsts_of t (ss ++ us)) _ x ∙ or_right _ _ g)
      on_end again false e g = absurd (false≢true g)

  -- what follows stays closed when a right side stands in the place of its left
  pub followed_right : (after ss us : List ℕ) → follows_are_closed t after ss ≡ true
      → ((x : ℕ) → has (behind t us) x ≡ true → has after x ≡ true) → AreFollowed t us → AreFollowed t (ss ++ us)
  followed_right after [] us c h f = f
  followed_right after (s ∷ ss) us c h f =
      let one = and_parts _ _ c in
      (λ nonterminal x b. followed_one nonterminal x (elim (or_cases _ _ one.0) [ inl g ↦ absurd (both_ways _ nonterminal g) | inr g ↦ and_parts _ _ g ]) (behind_append ss us x b), followed_right after ss us one.1 h f)
    where
      followed_one : is_terminal t s ≡ false → (x : ℕ)
          → (is_within (firsts_of t ss) (follow_of t s) ≡ true) × ((not (can_all_be_empty t ss) || is_within after (follow_of t s)) ≡ true)
          → (has (firsts_of t ss) x ≡ true) ⊎ ((can_all_be_empty t ss ≡ true) × (has (behind t us) x ≡ true)) → has (follow_of t s) x ≡ true
      followed_one nonterminal x (w, v) (inl g) = within_has _ _ x w g
      followed_one nonterminal x (w, v) (inr (g, k)) = within_has _ _ x (implied _ _ v g) (h x k)

  module _ (closed : claims_are_closed t ≡ true) where
    pub followed_expand : (s k : ℕ) (us : List ℕ) (p : Production) → slice_get t.productions.now k ≡ Some p → p.left ≡ s
        → is_terminal t s ≡ false → AreFollowed t (s ∷ us) → AreFollowed t (p.right.now ++ us)
    followed_expand s k us p at left nonterminal (f, fs) =
        followed_right (follow_of t p.left) p.right.now us (closed_under t k p closed at).follow
        (λ x b. subst (λ z. has (follow_of t z) x ≡ true) (sym left) (f nonterminal x b)) fs

    -- the next symbol of a text can stand behind what is in front of it
    pub next_behind : (ss : List ℕ) (f : Trees) (rest : List ℕ) (x : ℕ) → Derive t ss f → with_end (yield f) ≡ x ∷ rest
        → has (behind t ss) x ≡ true
    next_behind ss f rest x df e =
        elim (begins t closed ss f (end_symbol ∷ []) rest x df e) [
          | inl h ↦ behind_first ss x h
          | inr (h, last) ↦ let is : end_symbol ≡ x = cc in subst (λ z. has (behind t ss) z ≡ true) is (behind_end ss h)
        ]

    -- so the next symbol tells of the production of the first node
    pub next_tells : (s k : ℕ) (us : List ℕ) (ps n : Trees) (rest : List ℕ) (x : ℕ) → is_terminal t s ≡ false → AreFollowed t (s ∷ us)
        → Derive t (s ∷ us) (node k ps n) → with_end (yield (node k ps n)) ≡ x ∷ rest → IsChoice t s x k
    next_tells s k us ps n rest x nonterminal (f, fs) (p, at, left, dp, dn) e =
        record {
          chosen = p;
          at = at;
          left = left;
          told =
              has_append (firsts_of t p.right.now) _ x
              ∙ elim (begins t closed p.right.now ps (with_end (yield n)) rest x dp (sym (append_assoc (yield ps) (yield n) (end_symbol ∷ [])) ∙ e)) [
                | inl h ↦ or_left _ _ h
                | inr (h, e') ↦
                    or_right _ _
                    (ap (λ b. has (if b then follow_of t p.left else []) x) h
                    ∙ subst (λ z. has (follow_of t z) x ≡ true) (sym left) (f nonterminal x (next_behind us n rest x dn e')))
              ];
        }

  -- ---- one symbol tells of one production

  in_both : (xs ys : List ℕ) (x : ℕ) → is_apart xs ys ≡ true → has xs x ≡ true → has ys x ≡ true → ⊥
  in_both [] ys x a h g = false≢true h
  in_both (y ∷ xs) ys x a h g =
      elim (or_cases (nat_eq y x) (has xs x) h) [
        | inl same ↦ both_ways _ (not-true _ (and_parts _ _ a).0) (subst (λ z. has ys z ≡ true) (sym (eqb-true y x same)) g)
        | inr more ↦ in_both xs ys x (and_parts _ _ a).1 more g
      ]

  apart_told : (p q : Production) (x : ℕ) → are_told_apart t p q ≡ true → p.left ≡ q.left
      → has (signs_of t p) x ≡ true → has (signs_of t q) x ≡ true → ⊥
  apart_told p q x a left h g =
      let b = implied _ _ a (eq-eqb p.left q.left left) in
      in_both (signs_of t p) (signs_of t q) x (and_parts _ _ b).0 h g

  one_of : (ps : List Production) (i j x : ℕ) (p q : Production) → all_told_apart t ps ≡ true
      → slice_get ps i ≡ Some p → slice_get ps j ≡ Some q → p.left ≡ q.left → has (signs_of t p) x ≡ true → has (signs_of t q) x ≡ true → i ≡ j
  one_of [] i j x p q a at at' left h g = absurd cc
  one_of (r ∷ ps) zero zero x p q a at at' left h g = refl
  one_of (r ∷ ps) zero (suc j) x p q a at at' left h g =
      let is : r ≡ p = cc in
      absurd (apart_told p q x (all_at (are_told_apart t p) ps j q (subst (λ z. list_all (are_told_apart t z) ps ≡ true) is (and_parts _ _ a).0) at') left h g)
  one_of (r ∷ ps) (suc i) zero x p q a at at' left h g =
      let is : r ≡ q = cc in
      absurd (apart_told q p x (all_at (are_told_apart t q) ps i p (subst (λ z. list_all (are_told_apart t z) ps ≡ true) is (and_parts _ _ a).0) at) (sym left) g h)
  one_of (r ∷ ps) (suc i) (suc j) x p q a at at' left h g = ap suc (one_of ps i j x p q (and_parts _ _ a).1 at at' left h g)

  pub one_choice : (s x i j : ℕ) → all_told_apart t t.productions.now ≡ true → IsChoice t s x i → IsChoice t s x j → i ≡ j
  one_choice s x i j a c d =
      one_of t.productions.now i j x c.chosen d.chosen a c.at d.at (c.left ∙ sym d.left) c.told d.told
