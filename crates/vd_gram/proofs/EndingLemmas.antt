-- How a reading ends.
use Rattle.std.proofs.Common.{◌≡◌, ℕ, ◌+◌, ◌-◌, ◌<◌, ◌≤◌, true, false, List, [], ◌∷◌, ◌++◌, inl, inr, length, take, drop, refl, sym, ap, subst, ◌∙◌, arith, append_assoc, length-append}
use Rattle.std.proofs.lemmas.Bool.{both_ways, cases_lt}
use Rattle.std.proofs.lemmas.List.{append_cancel_right, append-nil, take-append-drop, take-take, take_all, take-append-le}
use Rattle.vd_gram.specs.declared.tables.Table.{Table}
use Rattle.vd_gram.specs.declared.stack.Pending.{Pending}
use Rattle.vd_gram.specs.declared.steps.Step.{Step}
use Rattle.vd_gram.specs.Claims.{is_terminal, is_checked, end_symbol}
use Rattle.vd_gram.specs.Derivations.{Trees, nothing, leaf, node, yield, Derive, IsDerivation, with_end, IsHopeless, IsTooDeep, IsParse, IsRefused, depth_before}
use Rattle.vd_gram.specs.Pending.{symbols_of}
use Rattle.vd_gram.specs.Runs.{IsChoice, deepest, steps_of, step_places, IsReading, IsShallow}
use Rattle.vd_gram.proofs.DerivationLemmas.{places-steps_of}
use Rattle.vd_gram.proofs.SignLemmas.{Checks, checks, closed_under, claimed_nonterminal}
use Rattle.vd_gram.proofs.FollowLemmas.{next_tells}
use Rattle.vd_gram.proofs.RankLemmas.{derivable}
use Rattle.vd_gram.proofs.DepthLemmas.{deepest-none, before-zero}
use Rattle.vd_gram.proofs.ReadingLemmas.{IsNext, next_to_come}

-- a longer front of a list begins with a shorter one
pub longer_front : (xs : List ℕ) (a b : ℕ) → a ≤ b → take b xs ≡ take a xs ++ drop a (take b xs)
longer_front xs a b within = sym (take-append-drop a (take b xs)) ∙ ap (λ l. l ++ drop a (take b xs)) (take-take a b xs within)

module _ (t : Table) (checked : is_checked t ≡ true) where
  parts : Checks t
  parts = checks t checked

  -- ---- depth

  pub shallow_start : (text : List ℕ) (deep : ℕ) → IsShallow t text 0 deep
  shallow_start text deep = record {
    shallow = λ tree begun more within d seen.
        let none : begun ≡ 0 = omega (arith, within) in
        let e : depth_before t begun tree ≡ 0 = ap (λ j. depth_before t j tree) none ∙ before-zero t tree in
        omega (arith, e);
  }

  -- what has begun before the seen symbols is known
  above_seen : (text : List ℕ) (i c : ℕ) (qs : List Pending) (steps : List Step) (above deep : ℕ) → IsReading t text i c qs steps above
      → above ≤ deep → ((f : Trees) → Derive t (symbols_of qs) f → deepest t (c - i) qs f ≡ 0)
      → (tree : Trees) (more : List ℕ) → IsDerivation t tree → with_end (yield tree) ≡ take c text ++ more → depth_before t c tree ≤ deep
  above_seen text i c qs steps above deep r within none tree more d seen =
      let o = r.only tree more d seen in
      let e = o.leaves.depths c (omega arith) in
      let z = none o.rest o.derived in
      omega (arith, e, z)

  shallow_step : (text : List ℕ) (i deep : ℕ) → IsShallow t text i deep
      → ((tree : Trees) (more : List ℕ) → IsDerivation t tree → with_end (yield tree) ≡ take (i + 1) text ++ more → depth_before t (i + 1) tree ≤ deep)
      → IsShallow t text (i + 1) deep
  shallow_step text i deep s h = record {
    shallow = λ tree begun more within d seen.
        elim (cases_lt i begun) [
          | inl later ↦
              let is : begun ≡ i + 1 = omega arith in
              subst (λ k. depth_before t k tree ≤ deep) (sym is) (h tree more d (seen ∙ ap (λ k. take k text ++ more) is))
          | inr early ↦ s.shallow tree begun more early d seen
        ];
  }

  pub shallow_more : (text : List ℕ) (i : ℕ) (qs : List Pending) (steps : List Step) (above deep : ℕ) → IsReading t text (i + 1) (i + 1) qs steps above
      → above ≤ deep → IsShallow t text i deep → IsShallow t text (i + 1) deep
  shallow_more text i qs steps above deep r within s =
      shallow_step text i deep s (above_seen text (i + 1) (i + 1) qs steps above deep r within (λ f d. deepest-none t (i + 1 - (i + 1)) qs f (omega arith)))

  shallow_end : (text : List ℕ) (i : ℕ) (steps : List Step) (above deep : ℕ) → IsReading t text i (i + 1) [] steps above
      → above ≤ deep → IsShallow t text i deep → IsShallow t text (i + 1) deep
  shallow_end text i steps above deep r within s =
      shallow_step text i deep s (above_seen text i (i + 1) [] steps above deep r within (λ f d. refl))

  -- too deep a node, once the symbol after its beginning was taken
  too_deep_by : (symbols : List ℕ) (c deep above : ℕ) (tree : Trees) (more : List ℕ) → IsDerivation t tree → c ≤ length (with_end symbols)
      → with_end (yield tree) ≡ take c (with_end symbols) ++ more → deep < above → above ≤ depth_before t c tree → IsTooDeep t symbols deep
  too_deep_by symbols c deep above tree more d within seen deeper reached =
      record { begun = c; tree = tree; rest = more; derived = d; within = within; begins = seen; deeper = omega (arith, deeper, reached) }

  pub too_deep : (symbols : List ℕ) (i : ℕ) (qs : List Pending) (steps : List Step) (above deep : ℕ) → IsReading t (with_end symbols) i i qs steps above
      → i ≤ length symbols → deep < above → IsTooDeep t symbols deep
  too_deep symbols i qs steps above deep r within deeper =
      let f = derivable t parts.ranks (symbols_of qs) r.known in
      let c = r.fill f.trees f.derived in
      let e = c.leaves.depths i (omega arith) in
      too_deep_by symbols i deep above c.tree (with_end (yield f.trees)) c.derived
      (omega (arith, within, length-append symbols (end_symbol ∷ []))) c.leaves.yields deeper (omega (arith, e))

  pub too_deep_end : (symbols : List ℕ) (i : ℕ) (steps : List Step) (above deep : ℕ) → IsReading t (with_end symbols) i (i + 1) [] steps above
      → IsNext t checked (with_end symbols) i end_symbol → i ≤ length symbols → deep < above → IsTooDeep t symbols deep
  too_deep_end symbols i steps above deep r next within deeper =
      let c = r.fill nothing tt in
      let e = c.leaves.depths (i + 1) (omega arith) in
      too_deep_by symbols (i + 1) deep above c.tree [] c.derived
      (omega (arith, within, length-append symbols (end_symbol ∷ []))) (c.leaves.yields ∙ sym next ∙ sym (append-nil (take (i + 1) (with_end symbols)))) deeper (omega (arith, e))

  -- ---- no text goes on

  -- nothing too deep begins in front of a hopeless place
  refused_by : (symbols : List ℕ) (i deep : ℕ) → IsShallow t (with_end symbols) i deep → IsHopeless t symbols i → IsRefused t symbols deep i
  refused_by symbols i deep s h = record {
    hopeless = h;
    shallow = λ d.
        elim (cases_lt i d.begun) [
          | inl later ↦
              h.hopeless (record {
                tree = d.tree;
                rest = drop (i + 1) (take d.begun (with_end symbols)) ++ d.rest;
                derived = d.derived;
                begins =
                    d.begins ∙ ap (λ l. l ++ d.rest) (longer_front (with_end symbols) (i + 1) d.begun (omega (arith, later)))
                    ∙ append_assoc (take (i + 1) (with_end symbols)) (drop (i + 1) (take d.begun (with_end symbols))) d.rest;
              })
          | inr early ↦ let low = s.shallow d.tree d.begun d.rest early d.derived d.begins in omega (arith, low, d.deeper)
        ];
  }

  module _ (symbols : List ℕ) (i x : ℕ) (next : IsNext t checked (with_end symbols) i x) (within : i ≤ length symbols) where
    -- nothing that is to come begins with the next symbol
    refused : (qs : List Pending) (steps : List Step) (above deep : ℕ) → IsReading t (with_end symbols) i (i + 1) qs steps above
        → IsShallow t (with_end symbols) i deep
        → ((f : Trees) (more : List ℕ) → Derive t (symbols_of qs) f → with_end (yield f) ≡ x ∷ more → ⊥) → IsRefused t symbols deep i
    refused qs steps above deep r s never =
        let f = derivable t parts.ranks (symbols_of qs) r.known in
        let c = r.fill f.trees f.derived in
        refused_by symbols i deep s
        (record {
          within = within;
          goes_on = record { tree = c.tree; rest = with_end (yield f.trees); derived = c.derived; begins = c.leaves.yields };
          hopeless = λ g.
              let o = r.only g.tree g.rest g.derived g.begins in
              never o.rest g.rest o.derived (next_to_come t checked (with_end symbols) g.rest i x g.tree o.rest next g.begins o.leaves.yields);
        })

    -- no symbol is to come
    pub refused_empty : (steps : List Step) (above deep : ℕ) → IsReading t (with_end symbols) i (i + 1) [] steps above
        → IsShallow t (with_end symbols) i deep → (end_symbol ≡ x → ⊥) → IsRefused t symbols deep i
    refused_empty steps above deep r s other = refused [] steps above deep r s never
      where
        never : (f : Trees) (more : List ℕ) → Derive t [] f → with_end (yield f) ≡ x ∷ more → ⊥
        never nothing more d e = other cc
        never (leaf s p n) more d e = d
        never (node k ps n) more d e = d

    -- another terminal is to come
    pub refused_terminal : (q : Pending) (qs : List Pending) (steps : List Step) (above deep : ℕ) → IsReading t (with_end symbols) i (i + 1) (q ∷ qs) steps above
        → IsShallow t (with_end symbols) i deep → is_terminal t q.symbol ≡ true → (q.symbol ≡ x → ⊥) → IsRefused t symbols deep i
    refused_terminal q qs steps above deep r s terminal other = refused (q ∷ qs) steps above deep r s never
      where
        never : (f : Trees) (more : List ℕ) → Derive t (symbols_of (q ∷ qs)) f → with_end (yield f) ≡ x ∷ more → ⊥
        never nothing more d e = d
        never (leaf s p n) more (is, same, dn) e = other cc
        never (node k ps n) more (p, at, left, dp, dn) e =
            both_ways _ (claimed_nonterminal t p.left (closed_under t k p parts.closed at).left) (subst (λ z. is_terminal t z ≡ true) (sym left) terminal)

    -- a nonterminal is to come of which the next symbol tells no production
    pub refused_nonterminal : (q : Pending) (qs : List Pending) (steps : List Step) (above deep : ℕ) → IsReading t (with_end symbols) i (i + 1) (q ∷ qs) steps above
        → IsShallow t (with_end symbols) i deep → is_terminal t q.symbol ≡ false → ((k : ℕ) → IsChoice t q.symbol x k → ⊥) → IsRefused t symbols deep i
    refused_nonterminal q qs steps above deep r s nonterminal no_choice = refused (q ∷ qs) steps above deep r s never
      where
        never : (f : Trees) (more : List ℕ) → Derive t (symbols_of (q ∷ qs)) f → with_end (yield f) ≡ x ∷ more → ⊥
        never nothing more d e = d
        never (leaf s p n) more (is, same, dn) e = both_ways _ nonterminal is
        never (node k ps n) more d e = no_choice k (next_tells t parts.closed q.symbol k (symbols_of qs) ps n more x nonterminal r.followed d e)

  -- the end stands in the midst of the symbols, where a text can end
  pub refused_after : (symbols : List ℕ) (i y : ℕ) (steps : List Step) (above deep : ℕ) → IsNext t checked (with_end symbols) i end_symbol
      → IsNext t checked (with_end symbols) (i + 1) y → i < length symbols → IsReading t (with_end symbols) i (i + 1) [] steps above
      → above ≤ deep → IsShallow t (with_end symbols) i deep → IsRefused t symbols deep (i + 1)
  refused_after symbols i y steps above deep next after within r low s =
      let c = r.fill nothing tt in
      refused_by symbols (i + 1) deep (shallow_end (with_end symbols) i steps above deep r low s)
      (record {
        within = omega (arith, within);
        goes_on = record { tree = c.tree; rest = []; derived = c.derived; begins = c.leaves.yields ∙ sym next ∙ sym (append-nil (take (i + 1) (with_end symbols))) };
        hopeless = λ g.
            let seen = g.begins ∙ ap (λ l. l ++ g.rest) after ∙ append_assoc (take (i + 1) (with_end symbols)) (y ∷ []) g.rest in
            let o = r.only g.tree (y ∷ g.rest) g.derived seen in
            never g.rest o.rest o.derived (next_to_come t checked (with_end symbols) (y ∷ g.rest) i end_symbol g.tree o.rest next seen o.leaves.yields);
      })
    where
      never : (more : List ℕ) (f : Trees) → Derive t [] f → with_end (yield f) ≡ end_symbol ∷ (y ∷ more) → ⊥
      never more nothing d e = cc
      never more (leaf s p n) d e = d
      never more (node k ps n) d e = d

  -- ---- the whole text was read

  -- a derivation with these steps
  pub record Parsed (symbols : List ℕ) (deep : ℕ) (steps : List Step) : Type 0 where
    pub tree : Trees
    pub steps_are : steps_of tree ≡ steps
    pub parse : IsParse t symbols deep tree

  pub parsed : (symbols : List ℕ) (steps : List Step) (above deep : ℕ) → IsReading t (with_end symbols) (length symbols) (length symbols + 1) [] steps above
      → above ≤ deep → IsShallow t (with_end symbols) (length symbols) deep → Parsed symbols deep steps
  parsed symbols steps above deep r low s =
      let c = r.fill nothing tt in
      let all : take (length symbols) (with_end symbols) ≡ symbols =
      take-append-le (length symbols) symbols (end_symbol ∷ []) (omega arith) ∙ take_all (length symbols) symbols (omega arith) in
      let e = shallow_end (with_end symbols) (length symbols) steps above deep r low s in
      let same = c.steps_are ∙ append-nil steps in
      record {
        tree = c.tree;
        steps_are = same;
        parse = record {
          derived = c.derived;
          yields = append_cancel_right (yield c.tree) symbols (end_symbol ∷ []) (c.leaves.yields ∙ ap (λ l. l ++ end_symbol ∷ []) all);
          placed = sym (places-steps_of c.tree) ∙ ap step_places same ∙ r.placed;
          shallow = λ d.
              let within : d.begun ≤ length symbols + 1 = omega (arith, d.within, length-append symbols (end_symbol ∷ [])) in
              let low = e.shallow d.tree d.begun d.rest within d.derived d.begins in
              omega (arith, low, d.deeper);
        };
      }
