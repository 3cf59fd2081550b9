-- A reading, a step at a time.
use Rattle.std.proofs.Common.{◌≡◌, ℕ, ◌+◌, ◌-◌, ◌<◌, ◌≤◌, max, true, false, List, [], ◌∷◌, ◌++◌, inl, inr, length, take, Some, slice_get, refl, sym, ap, subst, ◌∙◌, arith, append_assoc}
use Rattle.std.specs.List.{list_all}
use Rattle.std.proofs.lemmas.Bool.{and_parts, and_from, or_cases, or_right, false≢true, both_ways, eqb-true}
use Rattle.std.proofs.lemmas.List.{append_cancel_left}
use Rattle.std.proofs.lemmas.List.Folds.{list_all-append}
use Rattle.vd_gram.specs.declared.tables.Table.{Table}
use Rattle.vd_gram.specs.declared.stack.Pending.{Pending}
use Rattle.vd_gram.specs.declared.steps.Step.{Step}
use Rattle.vd_gram.specs.declared.steps.Step.TheVariants.{Leaf, Node}
use Rattle.vd_gram.specs.Claims.{has, is_terminal, is_known, follow_of, end_symbol, is_checked}
use Rattle.vd_gram.specs.Derivations.{Trees, nothing, leaf, node, yield, Derive, IsDerivation, with_end, joined, mark_of, depth_before}
use Rattle.vd_gram.specs.Pending.{at_depth, symbols_of}
use Rattle.vd_gram.specs.Runs.{IsChoice, behind, AreFollowed, deepest, steps_of, Leaves, Completed, Remains, IsReading}
use Rattle.vd_gram.proofs.DerivationLemmas.{yield-joined, Derive-joined, cut, Derive-count, steps_of-joined, placed_node, placed_leaf}
use Rattle.vd_gram.proofs.SignLemmas.{Checks, checks, closed_under, claimed_nonterminal}
use Rattle.vd_gram.proofs.FollowLemmas.{followed_expand, next_tells, one_choice}
use Rattle.vd_gram.proofs.DepthLemmas.{depth_expand, depth_start}
use Rattle.vd_gram.proofs.StackLemmas.{symbols-at_depth}

module _ (t : Table) (checked : is_checked t ≡ true) where
  parts : Checks t
  parts = checks t checked

  -- the symbol at a place is the next one
  abbrev pub IsNext : (text : List ℕ) (i x : ℕ) → Type 0
  IsNext text i x = take (i + 1) text ≡ take i text ++ x ∷ []

  -- what is to come begins with the next symbol
  pub next_to_come : (text more : List ℕ) (i x : ℕ) (d f : Trees) → IsNext text i x → with_end (yield d) ≡ take (i + 1) text ++ more
      → with_end (yield d) ≡ take i text ++ with_end (yield f) → with_end (yield f) ≡ x ∷ more
  next_to_come text more i x d f next seen split =
      sym (append_cancel_left (take i text) (x ∷ more) (with_end (yield f)) (sym (append_assoc (take i text) (x ∷ []) more) ∙ sym (ap (λ l. l ++ more) next) ∙ sym seen ∙ split))

  -- ---- a production more

  module _ (text : List ℕ) (i x : ℕ) (next : IsNext text i x) (q : Pending) (qs : List Pending) (k : ℕ) (choice : IsChoice t q.symbol x k) (nonterminal : is_terminal t q.symbol ≡ false) where
    abbrev pub right : List ℕ
    right = choice.chosen.right.now

    abbrev pub below : ℕ
    below = q.depth + mark_of t k

    same_symbols : symbols_of (at_depth below right ++ qs) ≡ right ++ symbols_of qs
    same_symbols = symbols-at_depth below right qs

    expand_depths : (above seen' : ℕ) (tree ps n : Trees) → Derive t right ps
        → ((begun : ℕ) → i + 1 ≤ begun → depth_before t begun tree ≡ max above (deepest t (begun - i) (q ∷ qs) (node k ps n)))
        → (begun : ℕ) → i + 1 ≤ begun
        → depth_before t begun tree ≡ max (max above below) (deepest t (begun - i) (at_depth below right ++ qs) (joined ps n))
    expand_depths above seen' tree ps n dp h begun enough =
        let some : 0 < begun - i = omega (arith, enough) in
        h begun enough ∙ depth_expand t above (begun - i) q qs k right ps n some dp

    expand_fill : (steps : List Step) (above : ℕ) → ((rest : Trees) → Derive t (symbols_of (q ∷ qs)) rest → Completed t text i (i + 1) (q ∷ qs) steps above rest)
        → (rest : Trees) → Derive t (symbols_of (at_depth below right ++ qs)) rest
        → Completed t text i (i + 1) (at_depth below right ++ qs) (steps ++ Node k (length right) ∷ []) (max above below) rest
    expand_fill steps above fill rest d =
        let c = cut t right (symbols_of qs) rest (subst (λ ss. Derive t ss rest) same_symbols d) in
        let old = fill (node k c.front c.back) (choice.chosen, choice.at, choice.left, c.derived_front, c.derived_back) in
        record {
          tree = old.tree;
          derived = old.derived;
          steps_are =
              old.steps_are
              ∙ ap (λ l. steps ++ l) (ap (λ n. Node k n ∷ (steps_of c.front ++ steps_of c.back)) (Derive-count t right c.front c.derived_front) ∙ ap (λ l. Node k (length right) ∷ l) (sym (steps_of-joined c.front c.back) ∙ ap steps_of (sym c.is)))
              ∙ sym (append_assoc steps (Node k (length right) ∷ []) (steps_of rest));
          leaves = record {
            yields = old.leaves.yields ∙ ap (λ l. take i text ++ with_end l) (sym (yield-joined c.front c.back) ∙ ap yield (sym c.is));
            depths = λ begun enough.
                expand_depths above 0 old.tree c.front c.back c.derived_front old.leaves.depths begun enough
                ∙ ap (λ f. max (max above below) (deepest t (begun - i) (at_depth below right ++ qs) f)) (sym c.is);
          };
        }

    expand_only : (above : ℕ) (tree : Trees) (more : List ℕ) → AreFollowed t (symbols_of (q ∷ qs)) → with_end (yield tree) ≡ take (i + 1) text ++ more
        → (rest : Trees) → Derive t (symbols_of (q ∷ qs)) rest → Leaves t text i (i + 1) (q ∷ qs) above tree rest
        → Remains t text i (i + 1) (at_depth below right ++ qs) (max above below) tree
    expand_only above tree more followed seen nothing d l = absurd d
    expand_only above tree more followed seen (leaf s p n) (is, same, dn) l = absurd (both_ways _ nonterminal is)
    expand_only above tree more followed seen (node k' ps n) d l =
        let e = next_to_come text more i x tree (node k' ps n) next seen l.yields in
        let other = next_tells t parts.closed q.symbol k' (symbols_of qs) ps n more x nonterminal followed d e in
        expand_same above tree k' ps n (one_choice t q.symbol x k k' parts.told choice other) d l
      where
        expand_same : (above : ℕ) (tree : Trees) (k' : ℕ) (ps n : Trees) → k ≡ k' → Derive t (symbols_of (q ∷ qs)) (node k' ps n)
            → Leaves t text i (i + 1) (q ∷ qs) above tree (node k' ps n) → Remains t text i (i + 1) (at_depth below right ++ qs) (max above below) tree
        expand_same above tree k' ps n is (p, at, left, dp, dn) l =
            let same : Some choice.chosen ≡ Some p = sym choice.at ∙ ap (slice_get t.productions.now) is ∙ at in
            let same_production : choice.chosen ≡ p = cc in
            let dp' : Derive t right ps = subst (λ z. Derive t z.right.now ps) (sym same_production) dp in
            let l' : Leaves t text i (i + 1) (q ∷ qs) above tree (node k ps n) = subst (λ z. Leaves t text i (i + 1) (q ∷ qs) above tree (node z ps n)) (sym is) l in
            record {
              rest = joined ps n;
              derived = subst (λ ss. Derive t ss (joined ps n)) (sym same_symbols) (Derive-joined t right (symbols_of qs) ps n dp' dn);
              leaves = record {
                yields = l'.yields ∙ ap (λ l. take i text ++ with_end l) (sym (yield-joined ps n));
                depths = expand_depths above 0 tree ps n dp' l'.depths;
              };
            }

    pub expand : (steps : List Step) (above : ℕ) → IsReading t text i (i + 1) (q ∷ qs) steps above
        → IsReading t text i (i + 1) (at_depth below right ++ qs) (steps ++ Node k (length right) ∷ []) (max above below)
    expand steps above r =
        let c = closed_under t k choice.chosen parts.closed choice.at in
        record {
          followed = subst (AreFollowed t) (sym same_symbols) (followed_expand t parts.closed q.symbol k (symbols_of qs) choice.chosen choice.at choice.left nonterminal r.followed);
          known = ap (list_all (is_known t)) same_symbols ∙ list_all-append (is_known t) right (symbols_of qs) ∙ and_from _ _ c.known (and_parts _ _ r.known).1;
          placed = placed_node steps k (length right) ∙ r.placed;
          fill = expand_fill steps above r.fill;
          only = λ tree more d seen. let o = r.only tree more d seen in expand_only above tree more r.followed seen o.rest o.derived o.leaves;
        }

  -- ---- a symbol more

  module _ (text : List ℕ) (i : ℕ) (q : Pending) (qs : List Pending) (next : IsNext text i q.symbol) (terminal : is_terminal t q.symbol ≡ true) where
    take_fill : (steps : List Step) (above : ℕ) → ((rest : Trees) → Derive t (symbols_of (q ∷ qs)) rest → Completed t text i (i + 1) (q ∷ qs) steps above rest)
        → (rest : Trees) → Derive t (symbols_of qs) rest → Completed t text (i + 1) (i + 1) qs (steps ++ Leaf q.symbol i ∷ []) above rest
    take_fill steps above fill rest d =
        let old = fill (leaf q.symbol i rest) (terminal, refl, d) in
        record {
          tree = old.tree;
          derived = old.derived;
          steps_are = old.steps_are ∙ sym (append_assoc steps (Leaf q.symbol i ∷ []) (steps_of rest));
          leaves = record {
            yields = old.leaves.yields ∙ sym (append_assoc (take i text) (q.symbol ∷ []) (with_end (yield rest))) ∙ ap (λ l. l ++ with_end (yield rest)) (sym next);
            depths = λ begun enough.
                let same : begun - i - 1 ≡ begun - (i + 1) = omega arith in
                old.leaves.depths begun enough ∙ ap (λ j. max above (deepest t j qs rest)) same;
          };
        }

    take_only : (above : ℕ) (tree : Trees) (more : List ℕ) → with_end (yield tree) ≡ take (i + 1) text ++ more
        → (rest : Trees) → Derive t (symbols_of (q ∷ qs)) rest → Leaves t text i (i + 1) (q ∷ qs) above tree rest
        → Remains t text (i + 1) (i + 1) qs above tree
    take_only above tree more seen nothing d l = absurd d
    take_only above tree more seen (node k ps n) (p, at, left, dp, dn) l =
        absurd (both_ways _ (claimed_nonterminal t p.left (closed_under t k p parts.closed at).left) (subst (λ z. is_terminal t z ≡ true) (sym left) terminal))
    take_only above tree more seen (leaf s p n) (is, same, dn) l =
        record {
          rest = n;
          derived = dn;
          leaves = record {
            yields =
                l.yields ∙ ap (λ z. take i text ++ z ∷ with_end (yield n)) same
                ∙ sym (append_assoc (take i text) (q.symbol ∷ []) (with_end (yield n))) ∙ ap (λ l. l ++ with_end (yield n)) (sym next);
            depths = λ begun enough.
                let less : begun - i - 1 ≡ begun - (i + 1) = omega arith in
                l.depths begun enough ∙ ap (λ j. max above (deepest t j qs n)) less;
          };
        }

    pub took : (steps : List Step) (above : ℕ) → IsReading t text i (i + 1) (q ∷ qs) steps above
        → IsReading t text (i + 1) (i + 1) qs (steps ++ Leaf q.symbol i ∷ []) above
    took steps above r = record {
      followed = r.followed.1;
      known = (and_parts _ _ r.known).1;
      placed = placed_leaf steps q.symbol i r.placed;
      fill = take_fill steps above r.fill;
      only = λ tree more d seen. let o = r.only tree more d seen in take_only above tree more seen o.rest o.derived o.leaves;
    }

  -- ---- a look at the next symbol

  module _ (text : List ℕ) (i x : ℕ) (next : IsNext text i x) where
    pub looked : (qs : List Pending) (steps : List Step) (above : ℕ) → IsReading t text i i qs steps above → IsReading t text i (i + 1) qs steps above
    looked qs steps above r = record {
      followed = r.followed;
      known = r.known;
      placed = r.placed;
      fill = λ rest d. let c = r.fill rest d in record {
        tree = c.tree;
        derived = c.derived;
        steps_are = c.steps_are;
        leaves = record { yields = c.leaves.yields; depths = λ begun enough. c.leaves.depths begun (omega (arith, enough)) };
      };
      only = λ tree more d seen.
          let o = r.only tree (x ∷ more) d (seen ∙ ap (λ l. l ++ more) next ∙ append_assoc (take i text) (x ∷ []) more) in
          record {
            rest = o.rest;
            derived = o.derived;
            leaves = record { yields = o.leaves.yields; depths = λ begun enough. o.leaves.depths begun (omega (arith, enough)) };
          };
    }

  -- ---- the start

  start_leaves : (text : List ℕ) (tree : Trees) → IsDerivation t tree → Leaves t text 0 0 (record { symbol = t.start; depth = 0 } ∷ []) 0 tree tree
  start_leaves text tree d = record { yields = refl; depths = λ begun enough. depth_start t begun t.start tree d }

  pub started : (text : List ℕ) → IsReading t text 0 0 (record { symbol = t.start; depth = 0 } ∷ []) [] 0
  started text =
      let claim = and_parts _ _ (and_parts _ _ (and_parts _ _ parts.closed).0).0 in
      record {
        followed = (λ nonterminal x b. subst (λ z. has (follow_of t t.start) z ≡ true) (only_end x b) claim.1, tt);
        known = and_from _ _ (or_right _ _ claim.0) refl;
        placed = refl;
        fill = λ rest d. record { tree = rest; derived = d; steps_are = refl; leaves = start_leaves text rest d };
        only = λ tree more d seen. record { rest = tree; derived = d; leaves = start_leaves text tree d };
      }
    where
      only_end : (x : ℕ) → has (behind t []) x ≡ true → end_symbol ≡ x
      only_end x b = elim (or_cases _ _ b) [ inl h ↦ eqb-true end_symbol x h | inr h ↦ absurd (false≢true h) ]
