-- Tables with one grammar.
use Rattle.std.proofs.Common.{◌≡◌, ℕ, zero, suc, ◌+◌, ◌-◌, ◌<◌, max, nat_eq, nat_lt, List, [], ◌∷◌, length, take, if◌then◌else◌, Some, slice_get, refl, sym, ap, subst, ◌∙◌}
use Rattle.vd_gram.specs.declared.tables.Production.{Production}
use Rattle.vd_gram.specs.declared.tables.Table.{Table}
use Rattle.vd_gram.specs.Claims.{has}
use Rattle.vd_gram.specs.Derivations.{Trees, nothing, leaf, node, yield, Derive, IsDerivation, with_end, GoesOn, IsTooDeep, mark, depth_before}
use Rattle.vd_gram.specs.Same.{AreSameProductions, IsSameGrammar, SaysTheSame}

same_back : (ps qs : List Production) → AreSameProductions ps qs → AreSameProductions qs ps
same_back [] [] s = tt
same_back [] (q ∷ qs) s = absurd s
same_back (p ∷ ps) [] s = absurd s
same_back (p ∷ ps) (q ∷ qs) (left, right, s) = (sym left, sym right, same_back ps qs s)

same_grammar_back : (t u : Table) → IsSameGrammar t u → IsSameGrammar u t
same_grammar_back t u s =
    record { terminals = sym s.terminals; start = sym s.start; marked = sym s.marked; productions = same_back t.productions.now u.productions.now s.productions }

-- the production with the same number
record IsOther (qs : List Production) (k : ℕ) (p : Production) : Type 0 where
  pub other : Production
  pub at : slice_get qs k ≡ Some other
  pub left : p.left ≡ other.left
  pub right : p.right.now ≡ other.right.now

other_at : (ps qs : List Production) (k : ℕ) (p : Production) → AreSameProductions ps qs → slice_get ps k ≡ Some p → IsOther qs k p
other_at [] qs k p s at = absurd cc
other_at (r ∷ ps) [] k p s at = absurd s
other_at (r ∷ ps) (q ∷ qs) zero p (left, right, s) at =
    let is : r ≡ p = cc in
    record { other = q; at = refl; left = ap (λ z. z.left) (sym is) ∙ left; right = ap (λ z. z.right.now) (sym is) ∙ right }
other_at (r ∷ ps) (q ∷ qs) (suc k) p (left, right, s) at =
    let o = other_at ps qs k p s at in record { other = o.other; at = o.at; left = o.left; right = o.right }

-- the productions with one number are marked alike
module _ (t u : Table) (s : IsSameGrammar t u) where
  marks : (k : ℕ) (ps qs : List Production) → AreSameProductions ps qs → mark t (slice_get ps k) ≡ mark u (slice_get qs k)
  marks k [] [] same = refl
  marks k [] (q ∷ qs) same = absurd same
  marks k (p ∷ ps) [] same = absurd same
  marks zero (p ∷ ps) (q ∷ qs) (left, right, same) = λ i. if has (s.marked i) (left i) then 1 else 0
  marks (suc k) (p ∷ ps) (q ∷ qs) (left, right, same) = marks k ps qs same

  depth-same : (k : ℕ) (f : Trees) → depth_before t k f ≡ depth_before u k f
  depth-same k nothing = refl
  depth-same k (leaf x p n) = depth-same (k - 1) n
  depth-same k (node j ps n) = λ i.
      if nat_eq k 0 then 0
      else max (marks j t.productions.now u.productions.now s.productions i + depth-same k ps i) (depth-same (k - length (yield ps)) n i)

  Derive-same : (ss : List ℕ) (f : Trees) → Derive t ss f → Derive u ss f
  Derive-same [] nothing d = tt
  Derive-same [] (leaf x p n) d = absurd d
  Derive-same [] (node j ps n) d = absurd d
  Derive-same (y ∷ ss) nothing d = absurd d
  Derive-same (y ∷ ss) (leaf x p n) (is, same, d) = (ap (λ k. nat_lt y k) (sym s.terminals) ∙ is, same, Derive-same ss n d)
  Derive-same (y ∷ ss) (node j ps n) (p, at, left, dp, d) =
      let o = other_at t.productions.now u.productions.now j p s.productions at in
      let dq : Derive u p.right.now ps = Derive-same p.right.now ps dp in
      (o.other, o.at, sym o.left ∙ left, subst (λ l. Derive u l ps) o.right dq, Derive-same ss n d)

  derivation-same : (f : Trees) → IsDerivation t f → IsDerivation u f
  derivation-same f d = subst (λ x. Derive u (x ∷ []) f) s.start (Derive-same (t.start ∷ []) f d)

  goes_on-same : (symbols : List ℕ) → GoesOn t symbols → GoesOn u symbols
  goes_on-same symbols g = record { tree = g.tree; rest = g.rest; derived = derivation-same g.tree g.derived; begins = g.begins }

  too_deep-same : (symbols : List ℕ) (deep : ℕ) → IsTooDeep t symbols deep → IsTooDeep u symbols deep
  too_deep-same symbols deep d = record {
    begun = d.begun;
    tree = d.tree;
    rest = d.rest;
    derived = derivation-same d.tree d.derived;
    within = d.within;
    begins = d.begins;
    deeper = subst (λ n. deep < n) (depth-same d.begun d.tree) d.deeper;
  }

one_way : (t u : Table) → IsSameGrammar t u → (symbols : List ℕ) (deep : ℕ) → SaysTheSame t u symbols deep
one_way t u s symbols deep =
    let b = same_grammar_back t u s in
    record {
      derivations = derivation-same t u s;
      parses = λ f p. record {
        derived = derivation-same t u s f p.derived;
        yields = p.yields;
        placed = p.placed;
        shallow = λ d. p.shallow (too_deep-same u t b symbols deep d);
      };
      refusals = λ place p. record {
        hopeless = record {
          within = p.hopeless.within;
          goes_on = goes_on-same t u s (take place (with_end symbols)) p.hopeless.goes_on;
          hopeless = λ g. p.hopeless.hopeless (goes_on-same u t b (take (place + 1) (with_end symbols)) g);
        };
        shallow = λ d. p.shallow (too_deep-same u t b symbols deep d);
      };
      too_deep = too_deep-same t u s symbols deep;
    }

pub say_the_same : (t u : Table) → IsSameGrammar t u → (symbols : List ℕ) (deep : ℕ) → SaysTheSame t u symbols deep × SaysTheSame u t symbols deep
say_the_same t u s symbols deep = (one_way t u s symbols deep, one_way u t (same_grammar_back t u s) symbols deep)
