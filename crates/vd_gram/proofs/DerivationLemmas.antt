-- What derivations of a checked table's grammar have.
use Rattle.std.proofs.Common.{◌≡◌, ℕ, zero, suc, ◌+◌, List, [], ◌∷◌, ◌++◌, length, refl, sym, ap, ◌∙◌, add-one, add-zero, arith, append_assoc}
use Rattle.std.specs.List.{range_with_len}
use Rattle.std.proofs.lemmas.List.{append-nil}
use Rattle.vd_gram.specs.declared.tables.Table.{Table}
use Rattle.vd_gram.specs.Derivations.{Trees, nothing, leaf, node, yield, places, tree_count, joined, Derive}
use Rattle.vd_gram.specs.declared.steps.Step.{Step}
use Rattle.vd_gram.specs.declared.steps.Step.TheVariants.{Leaf, Node}
use Rattle.vd_gram.specs.Runs.{steps_of, step_places}

pub yield-joined : (a b : Trees) → yield (joined a b) ≡ yield a ++ yield b
yield-joined nothing b = refl
yield-joined (leaf s p n) b = ap (λ l. s ∷ l) (yield-joined n b)
yield-joined (node k ps n) b = ap (λ l. yield ps ++ l) (yield-joined n b) ∙ sym (append_assoc (yield ps) (yield n) (yield b))

pub places-joined : (a b : Trees) → places (joined a b) ≡ places a ++ places b
places-joined nothing b = refl
places-joined (leaf s p n) b = ap (λ l. p ∷ l) (places-joined n b)
places-joined (node k ps n) b = ap (λ l. places ps ++ l) (places-joined n b) ∙ sym (append_assoc (places ps) (places n) (places b))

module _ (t : Table) where
  pub Derive-joined : (ss us : List ℕ) (a b : Trees) → Derive t ss a → Derive t us b → Derive t (ss ++ us) (joined a b)
  Derive-joined [] us nothing b da db = db
  Derive-joined [] us (leaf s p n) b da db = absurd da
  Derive-joined [] us (node k ps n) b da db = absurd da
  Derive-joined (x ∷ ss) us nothing b da db = absurd da
  Derive-joined (x ∷ ss) us (leaf s p n) b (is, same, dn) db = (is, same, Derive-joined ss us n b dn db)
  Derive-joined (x ∷ ss) us (node k ps n) b (p, at, left, dp, dn) db = (p, at, left, dp, Derive-joined ss us n b dn db)

  -- the derivations of two lists, cut in two
  pub record Cut (ss us : List ℕ) (f : Trees) : Type 0 where
    pub front : Trees
    pub back : Trees
    pub is : f ≡ joined front back
    pub derived_front : Derive t ss front
    pub derived_back : Derive t us back

  pub cut : (ss us : List ℕ) (f : Trees) → Derive t (ss ++ us) f → Cut ss us f
  cut [] us f df = record { front = nothing; back = f; is = refl; derived_front = tt; derived_back = df }
  cut (x ∷ ss) us nothing df = absurd df
  cut (x ∷ ss) us (leaf s p n) (is, same, dn) =
      let c = cut ss us n dn in
      record { front = leaf s p c.front; back = c.back; is = ap (leaf s p) c.is; derived_front = (is, same, c.derived_front); derived_back = c.derived_back }
  cut (x ∷ ss) us (node k ps n) (p, at, left, dp, dn) =
      let c = cut ss us n dn in
      record { front = node k ps c.front; back = c.back; is = ap (node k ps) c.is; derived_front = (p, at, left, dp, c.derived_front); derived_back = c.derived_back }

  pub Derive-count : (ss : List ℕ) (f : Trees) → Derive t ss f → tree_count f ≡ length ss
  Derive-count [] nothing d = refl
  Derive-count [] (leaf s p n) d = absurd d
  Derive-count [] (node k ps n) d = absurd d
  Derive-count (x ∷ ss) nothing d = absurd d
  Derive-count (x ∷ ss) (leaf s p n) (is, same, dn) = omega (arith, Derive-count ss n dn)
  Derive-count (x ∷ ss) (node k ps n) (p, at, left, dp, dn) = omega (arith, Derive-count ss n dn)

pub steps_of-joined : (a b : Trees) → steps_of (joined a b) ≡ steps_of a ++ steps_of b
steps_of-joined nothing b = refl
steps_of-joined (leaf s p n) b = ap (λ l. Leaf s p ∷ l) (steps_of-joined n b)
steps_of-joined (node k ps n) b =
    ap (λ l. Node k (tree_count ps) ∷ l) (ap (λ l. steps_of ps ++ l) (steps_of-joined n b) ∙ sym (append_assoc (steps_of ps) (steps_of n) (steps_of b)))

step_places-append : (a b : List Step) → step_places (a ++ b) ≡ step_places a ++ step_places b
step_places-append [] b = refl
step_places-append (Leaf s p ∷ a) b = ap (λ l. p ∷ l) (step_places-append a b)
step_places-append (Node k n ∷ a) b = step_places-append a b

-- a tree's steps have its places
pub places-steps_of : (f : Trees) → step_places (steps_of f) ≡ places f
places-steps_of nothing = refl
places-steps_of (leaf s p n) = ap (λ l. p ∷ l) (places-steps_of n)
places-steps_of (node k ps n) =
    step_places-append (steps_of ps) (steps_of n) ∙ ap (λ l. l ++ step_places (steps_of n)) (places-steps_of ps) ∙ ap (λ l. places ps ++ l) (places-steps_of n)

pub placed_node : (steps : List Step) (k n : ℕ) → step_places (steps ++ Node k n ∷ []) ≡ step_places steps
placed_node steps k n = step_places-append steps (Node k n ∷ []) ∙ append-nil (step_places steps)

range_more : (a n : ℕ) → range_with_len a n ++ (a + n) ∷ [] ≡ range_with_len a (suc n)
range_more a zero = ap (λ x. x ∷ []) (add-zero a)
range_more a (suc n) = ap (λ l. a ∷ l) (ap (λ x. range_with_len (a + 1) n ++ x ∷ []) (let same : a + suc n ≡ a + 1 + n = omega arith in same) ∙ range_more (a + 1) n)

pub placed_leaf : (steps : List Step) (s n : ℕ) → step_places steps ≡ range_with_len 0 n
    → step_places (steps ++ Leaf s n ∷ []) ≡ range_with_len 0 (n + 1)
placed_leaf steps s n so_far =
    step_places-append steps (Leaf s n ∷ []) ∙ ap (λ l. l ++ n ∷ []) so_far
    ∙ ap (λ x. range_with_len 0 n ++ x ∷ []) (let same : n ≡ 0 + n = omega arith in same) ∙ range_more 0 n ∙ ap (range_with_len 0) (sym (add-one n))
