-- The machine makes the shape of a derivation.
use Rattle.std.proofs.Common.{◌≡◌, ℕ, ◌+◌, ◌-◌, ◌<◌, ◌≤◌, Bool, true, false, nat_le, nat_eq, List, [], ◌∷◌, ◌++◌, ◌⊎◌, inl, inr, length, refl, sym, ap, subst, ◌∙◌, arith, length-append}
use Rattle.std.proofs.lemmas.Bool.{cases_lt, ne_eqb}
use Rattle.vd_tokens.specs.Lexemes.{Lexeme}
use Rattle.vd_gram.specs.declared.steps.Step.{Step}
use Rattle.vd_gram.specs.declared.steps.Step.TheVariants.{Node}
use Rattle.vd_gram.specs.Derivations.{Trees, nothing as no_tree, leaf, node, yield, tree_count}
use Rattle.vd_gram.specs.Runs.{steps_of}
use Rattle.vd_forest.specs.Forest.{Forest, nothing}
use Rattle.vd_forms.specs.declared.form.Form.{Form}
use Rattle.vd_shapes.specs.declared.actions.Action.{Action}
use Rattle.vd_shapes.specs.declared.actions.Action.TheVariants.{Splice, Make, Wrap, Group}
use Rattle.vd_shapes.specs.Shapes.{action_of, leaf_form, with_leaf, acted, start_of, grown}
use Rattle.vd_shapes.specs.Machine.{Open, Machine, set_aside, begun_with, opened, closed, counted, with_opened, stepped, run, begun}

module _ (actions : List Action) (tokens : List Lexeme) where
  pub run_more : (m : Machine) (ss : List Step) (s : Step) → run actions tokens m (ss ++ s ∷ []) ≡ stepped actions tokens (run actions tokens m ss) s
  run_more m [] s = refl
  run_more m (t ∷ ss) s = run_more (stepped actions tokens m t) ss s

  run_both : (m : Machine) (ss rs : List Step) → run actions tokens m (ss ++ rs) ≡ run actions tokens (run actions tokens m ss) rs
  run_both m [] rs = refl
  run_both m (t ∷ ss) rs = run_both (stepped actions tokens m t) ss rs

  abbrev Counted : Bool → Open → List Open → Forest Form → ℕ → Machine
  Counted true o os s n = counted actions tokens os (closed actions tokens o.action o.start o.outer s) n
  Counted false o os s n = record { open_ones = record o { left = o.left - 1 } ∷ os; so_far = s; taken = n }

  counted_by : (b : Bool) (o : Open) (os : List Open) (s : Forest Form) (n : ℕ) → nat_le o.left 1 ≡ b → counted actions tokens (o ∷ os) s n ≡ Counted b o os s n
  counted_by true o os s n e = ap (λ b. elim b as (λ _. Machine) [ true ↦ counted actions tokens os (closed actions tokens o.action o.start o.outer s) n | false ↦ record { open_ones = record o { left = o.left - 1 } ∷ os; so_far = s; taken = n } ]) e
  counted_by false o os s n e = ap (λ b. elim b as (λ _. Machine) [ true ↦ counted actions tokens os (closed actions tokens o.action o.start o.outer s) n | false ↦ record { open_ones = record o { left = o.left - 1 } ∷ os; so_far = s; taken = n } ]) e

  pub counted_ends : (o : Open) (os : List Open) (s : Forest Form) (n : ℕ) → o.left ≤ 1
      → counted actions tokens (o ∷ os) s n ≡ counted actions tokens os (closed actions tokens o.action o.start o.outer s) n
  counted_ends o os s n low = counted_by true o os s n (grind arith)

  pub counted_waits : (o : Open) (os : List Open) (s : Forest Form) (n : ℕ) → 1 < o.left
      → counted actions tokens (o ∷ os) s n ≡ record { open_ones = record o { left = o.left - 1 } ∷ os; so_far = s; taken = n }
  counted_waits o os s n high = counted_by false o os s n (grind arith)

  -- ---- a derivation is told

  no_trees : (f : Trees) → tree_count f ≤ 0 → f ≡ no_tree
  no_trees no_tree low = refl
  no_trees (leaf s p n) low = absurd (omega (arith, low))
  no_trees (node k ps n) low = absurd (omega (arith, low))

  closed_acted : (a : Action) (start : ℕ) (inner : Forest Form → Forest Form) (s : Forest Form)
      → closed actions tokens a start (set_aside a s) (inner (begun_with a s)) ≡ acted actions tokens a start inner s
  closed_acted Splice start inner s = refl
  closed_acted (Make f) start inner s = refl
  closed_acted (Wrap f) start inner s = refl
  closed_acted Group start inner s = refl

  -- so many parts of the innermost open production are behind it
  abbrev behind : ℕ → Open → Open
  behind count o = record o { left = o.left + 1 - count }

  abbrev Tells : Trees → Type 0
  Tells f =
      (o : Open) (os : List Open) (s : Forest Form) (n : ℕ) → 0 < tree_count f → tree_count f ≤ o.left
      → run actions tokens (record { open_ones = o ∷ os; so_far = s; taken = n }) (steps_of f)
      ≡ counted actions tokens (behind (tree_count f) o ∷ os) (grown actions tokens o.start n f s) (n + length (yield f))

  -- one tree stands there, and others come
  then_next : (next : Trees) → Tells next → (o : Open) (os : List Open) (s : Forest Form) (n : ℕ) → tree_count next + 1 ≤ o.left
      → run actions tokens (counted actions tokens (o ∷ os) s n) (steps_of next)
      ≡ counted actions tokens (behind (tree_count next + 1) o ∷ os) (grown actions tokens o.start n next s) (n + length (yield next))
  then_next next tells o os s n within =
      elim (cases_lt 0 (tree_count next)) [
        | inl some ↦
            let fewer : o.left - 1 + 1 - tree_count next ≡ o.left + 1 - (tree_count next + 1) = omega (arith, within, some) in
            ap (λ m. run actions tokens m (steps_of next)) (counted_waits o os s n (omega (arith, within, some)))
            ∙ (tells (record o { left = o.left - 1 }) os s n some (omega (arith, within))
            ∙ ap (λ l. counted actions tokens (record o { left = l } ∷ os) (grown actions tokens o.start n next s) (n + length (yield next))) fewer)
        | inr none ↦
            let is = no_trees next none in
            let same : o.left ≡ o.left + 1 - (0 + 1) = omega arith in
            let long : n ≡ n + 0 = omega arith in
            subst (λ x. run actions tokens (counted actions tokens (o ∷ os) s n) (steps_of x)
            ≡ counted actions tokens (behind (tree_count x + 1) o ∷ os) (grown actions tokens o.start n x s) (n + length (yield x))) (sym is)
            ((λ i. counted actions tokens (record o { left = same i } ∷ os) s (long i)))
      ]

  pub told : (f : Trees) → Tells f
  told no_tree o os s n some within = absurd (omega (arith, some))
  told (leaf symbol place next) o os s n some within =
      let long : n + 1 + length (yield next) ≡ n + (length (yield next) + 1) = omega arith in
      then_next next (told next) o os (with_leaf actions tokens (leaf_form symbol) n s) (n + 1) within
      ∙ ap (counted actions tokens (behind (tree_count next + 1) o ∷ os) (grown actions tokens o.start (n + 1) next (with_leaf actions tokens (leaf_form symbol) n s))) (long ∙ len (yield next) symbol)
    where
      len : (xs : List ℕ) (x : ℕ) → n + (length xs + 1) ≡ n + length (x ∷ xs)
      len xs x = omega arith
  told (node k parts next) o os s n some within =
      let a = action_of actions tokens k in
      let start = start_of [] [] a o.start n in
      run_both (stepped actions tokens (record { open_ones = o ∷ os; so_far = s; taken = n }) (Node k (tree_count parts))) (steps_of parts) (steps_of next)
      ∙ (ap (λ m. run actions tokens m (steps_of next)) (one_node (told parts) (cases_lt 0 (tree_count parts)))
      ∙ (then_next next (told next) o os (acted actions tokens a start (grown actions tokens start n parts) s) (n + length (yield parts)) within
      ∙ ap (counted actions tokens (behind (tree_count next + 1) o ∷ os) (grown actions tokens o.start (n + length (yield parts)) next (acted actions tokens a start (grown actions tokens start n parts) s))) len))
    where
      len : n + length (yield parts) + length (yield next) ≡ n + length (yield parts ++ yield next)
      len = omega (arith, length-append (yield parts) (yield next))

      one_node : Tells parts → (0 < tree_count parts) ⊎ (tree_count parts ≤ 0)
          → run actions tokens (stepped actions tokens (record { open_ones = o ∷ os; so_far = s; taken = n }) (Node k (tree_count parts))) (steps_of parts)
          ≡ counted actions tokens (o ∷ os) (acted actions tokens (action_of actions tokens k) (start_of [] [] (action_of actions tokens k) o.start n) (grown actions tokens (start_of [] [] (action_of actions tokens k) o.start n) n parts) s) (n + length (yield parts))
      one_node tells (inl some_parts) =
          let start = start_of [] [] (action_of actions tokens k) o.start n in
          let m : Machine = record { open_ones = o ∷ os; so_far = s; taken = n } in
          let inner : Open = opened (action_of actions tokens k) (tree_count parts) m in
          let begins : nat_eq (tree_count parts) 0 ≡ false = ne_eqb (tree_count parts) 0 (λ e. omega (arith, e, some_parts)) in
          ap (λ b. run actions tokens (with_opened actions tokens b inner m) (steps_of parts)) begins
          ∙ (tells inner (o ∷ os) (begun_with (action_of actions tokens k) s) n some_parts (omega arith)
          ∙ (counted_ends (behind (tree_count parts) inner) (o ∷ os) (grown actions tokens start n parts (begun_with (action_of actions tokens k) s)) (n + length (yield parts)) (omega arith)
          ∙ ap (λ x. counted actions tokens (o ∷ os) x (n + length (yield parts))) (closed_acted (action_of actions tokens k) start (grown actions tokens start n parts) s)))
      one_node tells (inr no_parts) =
          let start = start_of [] [] (action_of actions tokens k) o.start n in
          let long : n ≡ n + 0 = omega arith in
          subst (λ x. run actions tokens (stepped actions tokens (record { open_ones = o ∷ os; so_far = s; taken = n }) (Node k (tree_count x))) (steps_of x)
          ≡ counted actions tokens (o ∷ os) (acted actions tokens (action_of actions tokens k) start (grown actions tokens start n x) s) (n + length (yield x))) (sym (no_trees parts no_parts))
          (λ i. counted actions tokens (o ∷ os) (closed_acted (action_of actions tokens k) start (λ y. y) s i) (long i))

  -- the whole derivation is told: nothing is open, and what stands there are its trees
  pub all_told : (f : Trees) → tree_count f ≡ 1
      → run actions tokens begun (steps_of f) ≡ record { open_ones = []; so_far = grown actions tokens 0 0 f nothing; taken = 0 + length (yield f) }
  all_told f one =
      told f (record { action = Splice; left = 1; start = 0; outer = nothing }) [] nothing 0 (omega (arith, one)) (omega (arith, one))
      ∙ counted_ends (record { action = Splice; left = 1 + 1 - tree_count f; start = 0; outer = nothing }) [] (grown actions tokens 0 0 f nothing) (0 + length (yield f)) (omega (arith, one))
