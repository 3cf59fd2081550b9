-- Depths, a node at a time.
use Rattle.std.proofs.Common.{◌≡◌, ℕ, ◌+◌, ◌-◌, ◌<◌, max, false, nat_eq, List, [], ◌∷◌, ◌++◌, inl, inr, length, if◌then◌else◌, refl, ap, ◌∙◌, arith, length-append}
use Rattle.std.proofs.lemmas.Bool.{cases_Bool, eqb-true, eqb-false, ne_eqb}
use Rattle.vd_gram.specs.declared.tables.Table.{Table}
use Rattle.vd_gram.specs.declared.stack.Pending.{Pending}
use Rattle.vd_gram.specs.Derivations.{Trees, nothing, leaf, node, yield, Derive, joined, mark_of, depth_before}
use Rattle.vd_gram.specs.Pending.{at_depth}
use Rattle.vd_gram.specs.Runs.{deepest}

module _ (t : Table) where
  deepest-zero : (qs : List Pending) (f : Trees) → deepest t 0 qs f ≡ 0
  deepest-zero [] f = refl
  deepest-zero (q ∷ qs) nothing = refl
  deepest-zero (q ∷ qs) (leaf s p n) = deepest-zero qs n
  deepest-zero (q ∷ qs) (node k ps n) = refl

  pub before-zero : (f : Trees) → depth_before t 0 f ≡ 0
  before-zero nothing = refl
  before-zero (leaf s p n) = before-zero n
  before-zero (node k ps n) = refl

  pub deepest-none : (k : ℕ) (qs : List Pending) (f : Trees) → k ≡ 0 → deepest t k qs f ≡ 0
  deepest-none k qs f is = ap (λ j. deepest t j qs f) is ∙ deepest-zero qs f

  -- a node that has begun
  deepest-node : (k : ℕ) (q : Pending) (qs : List Pending) (p : ℕ) (ps n : Trees) → 0 < k
      → deepest t k (q ∷ qs) (node p ps n) ≡ max (q.depth + mark_of t p + depth_before t k ps) (deepest t (k - length (yield ps)) qs n)
  deepest-node k q qs p ps n some =
      let e : nat_eq k 0 ≡ false = ne_eqb k 0 (λ z. absurd (omega (arith, z))) in
      ap (λ b. if b then 0 else max (q.depth + mark_of t p + depth_before t k ps) (deepest t (k - length (yield ps)) qs n)) e

  pub before-node : (k p : ℕ) (ps n : Trees) → 0 < k
      → depth_before t k (node p ps n) ≡ max (mark_of t p + depth_before t k ps) (depth_before t (k - length (yield ps)) n)
  before-node k p ps n some =
      let e : nat_eq k 0 ≡ false = ne_eqb k 0 (λ z. absurd (omega (arith, z))) in
      ap (λ b. if b then 0 else max (mark_of t p + depth_before t k ps) (depth_before t (k - length (yield ps)) n)) e

  -- the parts of a node stand in the place of the node
  pub parts_in_place : (m k : ℕ) (ss : List ℕ) (qs : List Pending) (ps n : Trees) → Derive t ss ps
      → max m (deepest t k (at_depth m ss ++ qs) (joined ps n)) ≡ max (m + depth_before t k ps) (deepest t (k - length (yield ps)) qs n)
  parts_in_place m k [] qs nothing n d =
      let same : k - 0 ≡ k = omega arith in
      let e : deepest t (k - 0) qs n ≡ deepest t k qs n = ap (λ j. deepest t j qs n) same in omega (arith, e)
  parts_in_place m k [] qs (leaf s p x) n d = absurd d
  parts_in_place m k [] qs (node p ps x) n d = absurd d
  parts_in_place m k (s ∷ ss) qs nothing n d = absurd d
  parts_in_place m k (s ∷ ss) qs (leaf s' p x) n (is, same, dx) =
      let e : k - 1 - length (yield x) ≡ k - length (s' ∷ yield x) = omega arith in
      parts_in_place m (k - 1) ss qs x n dx ∙ ap (λ j. max (m + depth_before t (k - 1) x) (deepest t j qs n)) e
  parts_in_place m k (s ∷ ss) qs (node p ps x) n (pr, at, left, dp, dx) =
      elim (cases_Bool (nat_eq k 0)) [ inl z ↦ at_none (eqb-true k 0 z) | inr z ↦ at_some (let some : 0 < k = omega (arith, eqb-false k 0 z) in some) (parts_in_place m (k - length (yield ps)) ss qs x n dx) ]
    where
      at_none : k ≡ 0 → max m (deepest t k (at_depth m (s ∷ ss) ++ qs) (joined (node p ps x) n)) ≡ max (m + depth_before t k (node p ps x)) (deepest t (k - length (yield ps ++ yield x)) qs n)
      at_none z =
          let a : deepest t k (at_depth m (s ∷ ss) ++ qs) (joined (node p ps x) n) ≡ 0 = deepest-none k (at_depth m (s ∷ ss) ++ qs) (joined (node p ps x) n) z in
          let b : depth_before t k (node p ps x) ≡ 0 = ap (λ j. depth_before t j (node p ps x)) z ∙ before-zero (node p ps x) in
          let y : k - length (yield ps ++ yield x) ≡ 0 = omega (arith, z) in
          let c : deepest t (k - length (yield ps ++ yield x)) qs n ≡ 0 = deepest-none (k - length (yield ps ++ yield x)) qs n y in
          omega (arith, a, b, c)

      at_some : 0 < k
          → max m (deepest t (k - length (yield ps)) (at_depth m ss ++ qs) (joined x n)) ≡ max (m + depth_before t (k - length (yield ps)) x) (deepest t (k - length (yield ps) - length (yield x)) qs n)
          → max m (deepest t k (at_depth m (s ∷ ss) ++ qs) (joined (node p ps x) n)) ≡ max (m + depth_before t k (node p ps x)) (deepest t (k - length (yield ps ++ yield x)) qs n)
      at_some some again =
          let a = deepest-node k (record { symbol = s; depth = m }) (at_depth m ss ++ qs) p ps (joined x n) some in
          let b = before-node k p ps x some in
          let y : k - length (yield ps) - length (yield x) ≡ k - length (yield ps ++ yield x) = omega (arith, length-append (yield ps) (yield x)) in
          let c = ap (λ j. deepest t j qs n) y in
          omega (arith, a, b, c, again)

  -- one node more on the way down
  pub depth_expand : (above k : ℕ) (q : Pending) (qs : List Pending) (p : ℕ) (ss : List ℕ) (ps n : Trees) → 0 < k → Derive t ss ps
      → max above (deepest t k (q ∷ qs) (node p ps n))
      ≡ max (max above (q.depth + mark_of t p)) (deepest t k (at_depth (q.depth + mark_of t p) ss ++ qs) (joined ps n))
  depth_expand above k q qs p ss ps n some d =
      let a = deepest-node k q qs p ps n some in
      let b = parts_in_place (q.depth + mark_of t p) k ss qs ps n d in
      omega (arith, a, b)

  -- at the start
  pub depth_start : (k s : ℕ) (f : Trees) → Derive t (s ∷ []) f → depth_before t k f ≡ max 0 (deepest t (k - 0) (record { symbol = s; depth = 0 } ∷ []) f)
  depth_start k s nothing d = absurd d
  depth_start k s (leaf s' p nothing) (is, same, dn) = refl
  depth_start k s (leaf s' p (leaf s'' p' n)) (is, same, dn) = absurd dn
  depth_start k s (leaf s' p (node k' ps n)) (is, same, dn) = absurd dn
  depth_start k s (node p ps nothing) (pr, at, left, dp, dn) =
      let same : k - 0 ≡ k = omega arith in
      elim (cases_Bool (nat_eq k 0)) [ inl z ↦ at_none (eqb-true k 0 z) | inr z ↦ at_some (let some : 0 < k = omega (arith, eqb-false k 0 z) in some) ]
    where
      at_none : k ≡ 0 → depth_before t k (node p ps nothing) ≡ max 0 (deepest t (k - 0) (record { symbol = s; depth = 0 } ∷ []) (node p ps nothing))
      at_none z =
          let b : depth_before t k (node p ps nothing) ≡ 0 = ap (λ j. depth_before t j (node p ps nothing)) z ∙ before-zero (node p ps nothing) in
          let y : k - 0 ≡ 0 = omega (arith, z) in
          let c = deepest-none (k - 0) (record { symbol = s; depth = 0 } ∷ []) (node p ps nothing) y in
          omega (arith, b, c)

      at_some : 0 < k → depth_before t k (node p ps nothing) ≡ max 0 (deepest t (k - 0) (record { symbol = s; depth = 0 } ∷ []) (node p ps nothing))
      at_some some =
          let same : k - 0 ≡ k = omega arith in
          let e = ap (λ j. deepest t j (record { symbol = s; depth = 0 } ∷ []) (node p ps nothing)) same in
          let a = deepest-node k (record { symbol = s; depth = 0 }) [] p ps nothing some in
          let b = before-node k p ps nothing some in
          omega (arith, a, b, e)
  depth_start k s (node p ps (leaf s' p' n)) (pr, at, left, dp, dn) = absurd dn
  depth_start k s (node p ps (node k' ps' n)) (pr, at, left, dp, dn) = absurd dn
