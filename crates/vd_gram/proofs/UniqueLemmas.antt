-- A checked table gives each text one derivation, and each list of symbols one answer.
use Rattle.std.proofs.Common.{◌≡◌, ℕ, zero, suc, ◌+◌, ◌-◌, ◌<◌, ◌≤◌, true, false, List, [], ◌∷◌, ◌++◌, inl, inr, length, take, drop, Some, slice_get, refl, sym, ap, subst, ◌∙◌, arith, append_assoc, length-append}
use Rattle.std.proofs.lemmas.Bool.{both_ways, cases_lt}
use Rattle.std.proofs.lemmas.List.{take_all, append-nil, take-append-drop}
use Rattle.vd_gram.specs.declared.tables.Production.{Production}
use Rattle.vd_gram.specs.declared.tables.Table.{Table}
use Rattle.vd_gram.specs.declared.steps.Step.TheVariants.{Leaf, Node}
use Rattle.vd_gram.specs.Claims.{is_terminal, is_checked, end_symbol}
use Rattle.vd_gram.specs.Derivations.{Trees, nothing, leaf, node, yield, places, unplaced, size, tree_count, depth, depth_before, joined, Derive, IsDerivation, with_end, GoesOn, IsHopeless, IsParse}
use Rattle.vd_gram.specs.Runs.{AreFollowed, steps_of}
use Rattle.vd_gram.specs.Links.{trees_of}
use Rattle.vd_gram.proofs.DerivationLemmas.{yield-joined, places-joined, Derive-joined, Derive-count, steps_of-joined}
use Rattle.vd_gram.proofs.SignLemmas.{Checks, checks, closed_under, claimed_nonterminal}
use Rattle.vd_gram.proofs.FollowLemmas.{followed_expand, next_tells, one_choice}
use Rattle.vd_gram.proofs.ReadingLemmas.{started}
use Rattle.vd_gram.proofs.EndingLemmas.{longer_front}
use Rattle.vd_gram.specs.Laws.{HasOneAnswer}
use Rattle.vd_gram.proofs.DepthLemmas.{before-node}
use Rattle.vd_gram.proofs.LinkLemmas.{trees_of-steps_of}

size-joined : (a b : Trees) → size (joined a b) ≡ size a + size b
size-joined nothing b = omega arith
size-joined (leaf s p n) b = omega (arith, size-joined n b)
size-joined (node k ps n) b = omega (arith, size-joined n b)

-- a list with an end has a first symbol
record IsBegun (symbols : List ℕ) : Type 0 where
  pub head : ℕ
  pub tail : List ℕ
  pub is : with_end symbols ≡ head ∷ tail

begun : (symbols : List ℕ) → IsBegun symbols
begun [] = record { head = end_symbol; tail = []; is = refl }
begun (s ∷ ss) = record { head = s; tail = with_end ss; is = refl }

module _ (t : Table) (checked : is_checked t ≡ true) where
  parts : Checks t
  parts = checks t checked

  mixed : (s k : ℕ) (p : Production) → is_terminal t s ≡ true → slice_get t.productions.now k ≡ Some p → p.left ≡ s → ⊥
  mixed s k p terminal at left =
      both_ways _ (claimed_nonterminal t p.left (closed_under t k p parts.closed at).left) (subst (λ z. is_terminal t z ≡ true) (sym left) terminal)

  -- two nodes with one yield are of one production
  one_node : (s : ℕ) (ss : List ℕ) (k k' : ℕ) (ps r ps' r' : Trees) → is_terminal t s ≡ false → AreFollowed t (s ∷ ss)
      → Derive t (s ∷ ss) (node k ps r) → Derive t (s ∷ ss) (node k' ps' r') → yield (node k ps r) ≡ yield (node k' ps' r') → k ≡ k'
  one_node s ss k k' ps r ps' r' nonterminal followed d d' same =
      let b = begun (yield (node k ps r)) in
      one_choice t s b.head k k' parts.told
      (next_tells t parts.closed s k ss ps r b.tail b.head nonterminal followed d b.is)
      (next_tells t parts.closed s k' ss ps' r' b.tail b.head nonterminal followed d' (ap with_end (sym same) ∙ b.is))

  -- what stands in the place of two such nodes
  abbrev Again : (ss : List ℕ) (f g : Trees) → Type 0
  Again ss f g = AreFollowed t ss → Derive t ss f → Derive t ss g → yield f ≡ yield g → places f ≡ places g → steps_of f ≡ steps_of g

  same_nodes : (s : ℕ) (ss : List ℕ) (k k' : ℕ) (ps r ps' r' : Trees) → AreFollowed t (s ∷ ss) → is_terminal t s ≡ false
      → (p p' : Production) → slice_get t.productions.now k ≡ Some p → slice_get t.productions.now k' ≡ Some p' → p.left ≡ s → k ≡ k'
      → Derive t p.right.now ps → Derive t ss r → Derive t p'.right.now ps' → Derive t ss r'
      → yield (node k ps r) ≡ yield (node k' ps' r') → places (node k ps r) ≡ places (node k' ps' r')
      → Again (p.right.now ++ ss) (joined ps r) (joined ps' r') → steps_of (node k ps r) ≡ steps_of (node k' ps' r')
  same_nodes s ss k k' ps r ps' r' followed nonterminal p p' at at' left is dp dr dp' dr' same place again =
      let same_some : Some p ≡ Some p' = sym at ∙ ap (slice_get t.productions.now) is ∙ at' in
      let same_production : p ≡ p' = cc in
      let dp'' : Derive t p.right.now ps' = subst (λ z. Derive t z.right.now ps') (sym same_production) dp' in
      let rest =
      again (followed_expand t parts.closed s k ss p at left nonterminal followed)
      (Derive-joined t p.right.now ss ps r dp dr) (Derive-joined t p.right.now ss ps' r' dp'' dr')
      (yield-joined ps r ∙ same ∙ sym (yield-joined ps' r')) (places-joined ps r ∙ place ∙ sym (places-joined ps' r')) in
      let counts : tree_count ps ≡ tree_count ps' = Derive-count t p.right.now ps dp ∙ sym (Derive-count t p.right.now ps' dp'') in
      (λ i. Node (is i) (counts i) ∷ (sym (steps_of-joined ps r) ∙ rest ∙ steps_of-joined ps' r') i)

  -- derivations of some symbols with one yield, and leaves at the same places, have the same steps
  same_steps : (n : ℕ) (ss : List ℕ) (f g : Trees) → size f ≤ n → Again ss f g
  same_steps n [] nothing nothing low followed d e same place = refl
  same_steps n [] nothing (leaf s p x) low followed d e same place = absurd e
  same_steps n [] nothing (node k ps x) low followed d e same place = absurd e
  same_steps n [] (leaf s p x) g low followed d e same place = absurd d
  same_steps n [] (node k ps x) g low followed d e same place = absurd d
  same_steps n (s ∷ ss) nothing g low followed d e same place = absurd d
  same_steps n (s ∷ ss) (leaf s' p x) nothing low followed d e same place = absurd e
  same_steps zero (s ∷ ss) (leaf s' p x) (leaf s'' p' x') low followed d e same place = absurd (omega (arith, low))
  same_steps (suc n) (s ∷ ss) (leaf s' p x) (leaf s'' p' x') low followed (is, of, d) (is', of', e) same place =
      let heads : s' ≡ s'' = cc in
      let tails : yield x ≡ yield x' = cc in
      let place_heads : p ≡ p' = cc in
      let place_tails : places x ≡ places x' = cc in
      let rest = same_steps n ss x x' (omega (arith, low)) followed.1 d e tails place_tails in
      (λ i. Leaf (heads i) (place_heads i) ∷ rest i)
  same_steps n (s ∷ ss) (leaf s' p x) (node k ps y) low followed (is, of, d) (q, at, left, dp, dy) same place = absurd (mixed s k q is at left)
  same_steps n (s ∷ ss) (node k ps x) nothing low followed d e same place = absurd e
  same_steps n (s ∷ ss) (node k ps x) (leaf s' p y) low followed (q, at, left, dp, dx) (is, of, e) same place = absurd (mixed s k q is at left)
  same_steps zero (s ∷ ss) (node k ps x) (node k' ps' x') low followed d e same place = absurd (omega (arith, low))
  same_steps (suc n) (s ∷ ss) (node k ps x) (node k' ps' x') low followed (p, at, left, dp, dx) (p', at', left', dp', dx') same place =
      let nonterminal : is_terminal t s ≡ false = subst (λ z. is_terminal t z ≡ false) left (claimed_nonterminal t p.left (closed_under t k p parts.closed at).left) in
      same_nodes s ss k k' ps x ps' x' followed nonterminal p p' at at' left
      (one_node s ss k k' ps x ps' x' nonterminal followed (p, at, left, dp, dx) (p', at', left', dp', dx') same)
      dp dx dp' dx' same place
      (same_steps n (p.right.now ++ ss) (joined ps x) (joined ps' x') (omega (arith, low, size-joined ps x)))

  start_followed : AreFollowed t (t.start ∷ [])
  start_followed = (started t checked []).followed

  pub one_derivation : (f g : Trees) → IsDerivation t f → IsDerivation t g → yield f ≡ yield g → places f ≡ places g → f ≡ g
  one_derivation f g d e same place =
      let steps = same_steps (size f) (t.start ∷ []) f g (omega arith) start_followed d e same place in
      sym (trees_of-steps_of f) ∙ ap trees_of steps ∙ trees_of-steps_of g

-- ---- trees without places

yield-unplaced : (f : Trees) → yield (unplaced f) ≡ yield f
yield-unplaced nothing = refl
yield-unplaced (leaf s p n) = ap (λ l. s ∷ l) (yield-unplaced n)
yield-unplaced (node k ps n) = (λ i. yield-unplaced ps i ++ yield-unplaced n i)

zeros : List ℕ → List ℕ
zeros [] = []
zeros (s ∷ ss) = 0 ∷ zeros ss

zeros-append : (xs ys : List ℕ) → zeros (xs ++ ys) ≡ zeros xs ++ zeros ys
unfolding zeros
zeros-append [] ys = refl
zeros-append (x ∷ xs) ys = ap (λ l. 0 ∷ l) (zeros-append xs ys)

places-unplaced : (f : Trees) → places (unplaced f) ≡ zeros (yield f)
unfolding zeros
places-unplaced nothing = refl
places-unplaced (leaf s p n) = ap (λ l. 0 ∷ l) (places-unplaced n)
places-unplaced (node k ps n) = (λ i. places-unplaced ps i ++ places-unplaced n i) ∙ sym (zeros-append (yield ps) (yield n))

Derive-unplaced : (t : Table) (ss : List ℕ) (f : Trees) → Derive t ss f → Derive t ss (unplaced f)
Derive-unplaced t [] nothing d = d
Derive-unplaced t [] (leaf s p n) d = absurd d
Derive-unplaced t [] (node k ps n) d = absurd d
Derive-unplaced t (x ∷ ss) nothing d = absurd d
Derive-unplaced t (x ∷ ss) (leaf s p n) (is, same, dn) = (is, same, Derive-unplaced t ss n dn)
Derive-unplaced t (x ∷ ss) (node k ps n) (p, at, left, dp, dn) = (p, at, left, Derive-unplaced t p.right.now ps dp, Derive-unplaced t ss n dn)

pub one_unplaced : (t : Table) (checked : is_checked t ≡ true) (f g : Trees) → IsDerivation t f → IsDerivation t g → yield f ≡ yield g
    → unplaced f ≡ unplaced g
one_unplaced t checked f g d e same =
    one_derivation t checked (unplaced f) (unplaced g) (Derive-unplaced t (t.start ∷ []) f d) (Derive-unplaced t (t.start ∷ []) g e)
    (yield-unplaced f ∙ same ∙ sym (yield-unplaced g))
    (places-unplaced f ∙ ap zeros same ∙ sym (places-unplaced g))

-- ---- one answer

-- a text goes on from each of its fronts
parse_goes_on : (t : Table) (symbols : List ℕ) (deep : ℕ) (f : Trees) (k : ℕ) → IsParse t symbols deep f → GoesOn t (take k (with_end symbols))
parse_goes_on t symbols deep f k p =
    record { tree = f; rest = drop k (with_end symbols); derived = p.derived; begins = ap with_end p.yields ∙ sym (take-append-drop k (with_end symbols)) }

goes_on_less : (t : Table) (text : List ℕ) (a b : ℕ) → a ≤ b → GoesOn t (take b text) → GoesOn t (take a text)
goes_on_less t text a b within g =
    record {
      tree = g.tree;
      rest = drop a (take b text) ++ g.rest;
      derived = g.derived;
      begins = g.begins ∙ ap (λ l. l ++ g.rest) (longer_front text a b within) ∙ append_assoc (take a text) (drop a (take b text)) g.rest;
    }

no_less : (t : Table) (symbols : List ℕ) (i j : ℕ) → IsHopeless t symbols i → IsHopeless t symbols j → j ≤ i
no_less t symbols i j h k =
    elim (cases_lt i j) [
      | inl less ↦ absurd (h.hopeless (goes_on_less t (with_end symbols) (i + 1) j (omega (arith, less)) k.goes_on))
      | inr ge ↦ ge
    ]

pub one_answer : (t : Table) (checked : is_checked t ≡ true) (symbols : List ℕ) (deep : ℕ) → HasOneAnswer t symbols deep
one_answer t checked symbols deep = record {
  one_parse = λ f g p q. one_derivation t checked f g p.derived q.derived (p.yields ∙ sym q.yields) (p.placed ∙ sym q.placed);
  one_place = λ i j p q. omega (arith, no_less t symbols i j p.hopeless q.hopeless, no_less t symbols j i q.hopeless p.hopeless);
  parsed_or_refused = λ f i p q. q.hopeless.hopeless (parse_goes_on t symbols deep f (i + 1) p);
  parsed_or_deep = λ f p d. p.shallow d;
  refused_or_deep = λ i p d. p.shallow d;
}

-- ---- depth

depth_all : (t : Table) (f : Trees) (k : ℕ) → length (yield f) < k → depth_before t k f ≡ depth t f
depth_all t nothing k le = refl
depth_all t (leaf s p n) k le = depth_all t n (k - 1) (omega (arith, le))
depth_all t (node j ps n) k le =
    let long = length-append (yield ps) (yield n) in
    let a = before-node t k j ps n (omega (arith, le)) in
    let b = depth_all t ps k (omega (arith, le, long)) in
    let c = depth_all t n (k - length (yield ps)) (omega (arith, le, long)) in
    omega (arith, a, b, c)

pub shallow_depth : (t : Table) (symbols : List ℕ) (deep : ℕ) (f : Trees) → IsParse t symbols deep f → depth t f ≤ deep
shallow_depth t symbols deep f p =
    let k : ℕ = length symbols + 1 in
    let all : take (length symbols + 1) (with_end symbols) ≡ with_end symbols = take_all (length symbols + 1) (with_end symbols) (omega (arith, length-append symbols (end_symbol ∷ []))) in
    let e = depth_all t f (length symbols + 1) (omega (arith, ap length p.yields)) in
    elim (cases_lt deep (depth t f)) [
      | inl more ↦
          absurd
          (p.shallow (record {
            begun = length symbols + 1;
            tree = f;
            rest = [];
            derived = p.derived;
            within = omega (arith, length-append symbols (end_symbol ∷ []));
            begins = ap with_end p.yields ∙ sym all ∙ sym (append-nil (take (length symbols + 1) (with_end symbols)));
            deeper = omega (arith, more, e);
          }))
      | inr few ↦ few
    ]
