-- Where reading on stops: the tokens that pass, and what is left behind them.
use Rattle.std.proofs.Common.{◌≡◌, ℕ, suc, ◌≤◌, ◌<◌, Bool, true, false, ltb, List, [], ◌∷◌, ◌++◌, length, Option, Some, None, refl, sym, ap, ◌∙◌, subst, inl, inr}
use Rattle.std.specs.Prelude.{◌⊎◌}
use Rattle.std.specs.List.{AllByRecursion}
use Rattle.std.proofs.lemmas.Bool.{le-ltb, ltb-true, ltb-false, and_parts}
use Rattle.vd_first_lex.specs.declared.tokens.Token.{Token}
use Rattle.vd_first_grammar.specs.Reader.{Outcome, got, stuck, deep}
use Rattle.vd_first_grammar.proofs.Machine.{Item, opened, depth, Memory, remember, meets, scan, Run, misfit, before, run}
use Rattle.vd_first_grammar.proofs.RunExpressions.{run_step}

-- the tokens of the front open items one by one within the limit, and what is asked holds
abbrev pub Passes : ℕ → Memory → List Item → List Token → Memory → List Item → Type 0
Passes limit m is' [] n js = (m ≡ n) × (is' ≡ js)
Passes limit m [] (t ∷ ts) n js = ⊥
Passes limit m (i ∷ is') (t ∷ ts) n js = (body : List Item) × (opened i t ≡ Some body) × (depth i t ≤ limit) × (meets m i t ≡ true) × Passes limit (remember m i t) (body ++ is') ts n js

-- the first of the tokens opens nothing, or does so where what is asked does not hold; or there is none, and items are left
abbrev pub Refuses : ℕ → Memory → List Item → List Token → Type 0
Refuses limit m [] ts = ⊥
Refuses limit m (i ∷ is') [] = Unit {0}
Refuses limit m (i ∷ is') (t ∷ ts) = (opened i t ≡ None) ⊎ ((body : List Item) × (opened i t ≡ Some body) × (depth i t ≤ limit) × (meets m i t ≡ false))

-- the first of the tokens opens an item beyond the limit
abbrev pub Exceeds : ℕ → List Item → List Token → Type 0
Exceeds limit [] ts = ⊥
Exceeds limit (i ∷ is') [] = ⊥
Exceeds limit (i ∷ is') (t ∷ ts) = (body : List Item) × (opened i t ≡ Some body) × (limit < depth i t)

pub record StopsAt (limit : ℕ) (m : Memory) (is' : List Item) (ts rest : List Token) (P : Memory → List Item → Type 0) : Type 0 where
  pub front : List Token
  pub memory : Memory
  pub items : List Item
  pub parts : front ++ rest ≡ ts
  pub passes : Passes limit m is' front memory items
  pub here : P memory items

abbrev pub Stops : ℕ → Memory → List Item → List Token → Outcome Memory → Type 0
Stops limit m is' ts (got x) = StopsAt limit m is' ts x.1 (λ n js. (n ≡ x.0) × (js ≡ []))
Stops limit m is' ts (stuck rest) = StopsAt limit m is' ts rest (λ n js. Refuses limit n js rest)
Stops limit m is' ts (deep rest) = StopsAt limit m is' ts rest (λ n js. Exceeds limit js rest)

one_more : (limit : ℕ) (m : Memory) (i : Item) (is' : List Item) (t : Token) (ts : List Token) (body : List Item) (o : Outcome Memory) → opened i t ≡ Some body → depth i t ≤ limit → meets m i t ≡ true → Stops limit (remember m i t) (body ++ is') ts o → Stops limit m (i ∷ is') (t ∷ ts) o
one_more limit m i is' t ts body (got x) opens within holds s = record { front = t ∷ s.front; memory = s.memory; items = s.items; parts = ap (λ (r : List Token). t ∷ r) s.parts; passes = (body, opens, within, holds, s.passes); here = s.here }
one_more limit m i is' t ts body (stuck rest) opens within holds s = record { front = t ∷ s.front; memory = s.memory; items = s.items; parts = ap (λ (r : List Token). t ∷ r) s.parts; passes = (body, opens, within, holds, s.passes); here = s.here }
one_more limit m i is' t ts body (deep rest) opens within holds s = record { front = t ∷ s.front; memory = s.memory; items = s.items; parts = ap (λ (r : List Token). t ∷ r) s.parts; passes = (body, opens, within, holds, s.passes); here = s.here }

stops_by : (limit : ℕ) (m : Memory) (i : Item) (is' : List Item) (t : Token) (ts : List Token) → ((n : Memory) (js : List Item) → Stops limit n js ts (scan limit n js ts))
    → (o : Option (List Item)) → opened i t ≡ o → (b : Bool) → ltb limit (depth i t) ≡ b → (c : Bool) → meets m i t ≡ c → Stops limit m (i ∷ is') (t ∷ ts) (scan limit m (i ∷ is') (t ∷ ts))
unfolding scan
stops_by limit m i is' t ts again None opens b deeps c holds = rw (scan, opens) (record { front = []; memory = m; items = i ∷ is'; parts = refl; passes = (refl, refl); here = inl opens })
stops_by limit m i is' t ts again (Some body) opens true deeps c holds = rw (scan, opens, deeps) (record { front = []; memory = m; items = i ∷ is'; parts = refl; passes = (refl, refl); here = (body, opens, ltb-true limit (depth i t) deeps) })
stops_by limit m i is' t ts again (Some body) opens false deeps false holds = rw (scan, opens, deeps, holds) (record { front = []; memory = m; items = i ∷ is'; parts = refl; passes = (refl, refl); here = inr (body, opens, ltb-false limit (depth i t) deeps, holds) })
stops_by limit m i is' t ts again (Some body) opens false deeps true holds = rw (scan, opens, deeps, holds) (one_more limit m i is' t ts body (scan limit (remember m i t) (body ++ is') ts) opens (ltb-false limit (depth i t) deeps) holds (again (remember m i t) (body ++ is')))

-- where reading on stops, and why
pub stops : (limit : ℕ) (ts : List Token) (m : Memory) (is' : List Item) → Stops limit m is' ts (scan limit m is' ts)
unfolding scan
stops limit ts m [] = record { front = []; memory = m; items = []; parts = refl; passes = (refl, refl); here = (refl, refl) }
stops limit [] m (i ∷ is') = record { front = []; memory = m; items = i ∷ is'; parts = refl; passes = (refl, refl); here = tt }
stops limit (t ∷ ts) m (i ∷ is') = stops_by limit m i is' t ts (stops limit ts) (opened i t) refl (ltb limit (depth i t)) refl (meets m i t) refl

-- ---- what passes, whatever the depths

-- the depths of the tokens that pass
abbrev pub depths_of : (limit : ℕ) (m : Memory) (is' : List Item) (front : List Token) (n : Memory) (js : List Item) → Passes limit m is' front n js → List ℕ
depths_of limit m is' [] n js p = []
depths_of limit m [] (t ∷ ts) n js p = absurd p
depths_of limit m (i ∷ is') (t ∷ ts) n js p = depth i t ∷ depths_of limit (remember m i t) (p.0 ++ is') ts n js p.4

pub depths_length : (limit : ℕ) (front : List Token) (m : Memory) (is' : List Item) (n : Memory) (js : List Item) (p : Passes limit m is' front n js) → length (depths_of limit m is' front n js p) ≡ length front
depths_length limit [] m is' n js p = refl
depths_length limit (t ∷ ts) m [] n js p = absurd p
depths_length limit (t ∷ ts) m (i ∷ is') n js p = ap suc (depths_length limit ts (remember m i t) (p.0 ++ is') n js p.4)

pub depths_within : (limit : ℕ) (front : List Token) (m : Memory) (is' : List Item) (n : Memory) (js : List Item) (p : Passes limit m is' front n js) → AllByRecursion (λ d. d ≤ limit) (depths_of limit m is' front n js p)
depths_within limit [] m is' n js p = tt
depths_within limit (t ∷ ts) m [] n js p = absurd p
depths_within limit (t ∷ ts) m (i ∷ is') n js p = (p.2, depths_within limit ts (remember m i t) (p.0 ++ is') n js p.4)

pub run_passes : (limit : ℕ) (front rest : List Token) (m : Memory) (is' : List Item) (n : Memory) (js : List Item) (p : Passes limit m is' front n js) → run m is' (front ++ rest) ≡ before (depths_of limit m is' front n js p) true (run n js rest)
run_passes limit [] rest m is' n js p = rw (p.0, p.1) refl
run_passes limit (t ∷ ts) rest m [] n js p = absurd p
run_passes limit (t ∷ ts) rest m (i ∷ is') n js p =
    run_step m i is' t (ts ++ rest) p.0 p.1
    ∙ rw p.3 (ap (before (depth i t ∷ []) true) (run_passes limit ts rest (remember m i t) (p.0 ++ is') n js p.4))

-- what passes is read on as it is
pub scan_passes : (limit : ℕ) (front rest : List Token) (m : Memory) (is' : List Item) (n : Memory) (js : List Item) → Passes limit m is' front n js → scan limit m is' (front ++ rest) ≡ scan limit n js rest
unfolding scan
scan_passes limit [] rest m is' n js p = rw (p.0, p.1) refl
scan_passes limit (t ∷ ts) rest m [] n js p = absurd p
scan_passes limit (t ∷ ts) rest m (i ∷ is') n js p =
    let within = le-ltb limit (depth i t) p.2 in
    rw (scan, p.1, within, p.3) (scan_passes limit ts rest (remember m i t) (p.0 ++ is') n js p.4)

-- a part of what passes
pub passes_parts : (limit : ℕ) (front back : List Token) (m : Memory) (is' : List Item) (n : Memory) (js : List Item) → Passes limit m is' (front ++ back) n js → (k : Memory) × (ks : List Item) × Passes limit m is' front k ks × Passes limit k ks back n js
passes_parts limit [] back m is' n js p = (m, is', (refl, refl), p)
passes_parts limit (t ∷ front) back m [] n js p = absurd p
passes_parts limit (t ∷ front) back m (i ∷ is') n js p =
    let rest = passes_parts limit front back (remember m i t) (p.0 ++ is') n js p.4 in
    (rest.0, rest.1, (p.0, p.1, p.2, p.3, rest.2), rest.3)

-- all fits, and all conditions hold
pub record Completes (limit : ℕ) (r : Run) : Type 0 where
  pub left : r.left ≡ Some []
  pub fair : r.fair ≡ true
  pub within : AllByRecursion (λ d. d ≤ limit) r.depths

pub run_misfit : (m : Memory) (i : Item) (is' : List Item) (t : Token) (ts : List Token) → opened i t ≡ None → run m (i ∷ is') (t ∷ ts) ≡ misfit
unfolding run
run_misfit m i is' t ts opens = rw (run, opens) refl

scan_goes : (limit : ℕ) (m : Memory) (i : Item) (is' : List Item) (t : Token) (ts : List Token) (body : List Item) → opened i t ≡ Some body → ltb limit (depth i t) ≡ false → meets m i t ≡ true → scan limit m (i ∷ is') (t ∷ ts) ≡ scan limit (remember m i t) (body ++ is') ts
unfolding scan
scan_goes limit m i is' t ts body opens shallow holds = rw (scan, opens, shallow, holds) refl

-- a run that completes is read on so within the limit
run_scan_by : (limit : ℕ) (m : Memory) (i : Item) (is' : List Item) (t : Token) (ts : List Token)
    → ((n : Memory) (js : List Item) → Completes limit (run n js ts) → (k : Memory) × (scan limit n js ts ≡ got (k, [])))
    → (o : Option (List Item)) → opened i t ≡ o → Completes limit (run m (i ∷ is') (t ∷ ts)) → (k : Memory) × (scan limit m (i ∷ is') (t ∷ ts) ≡ got (k, []))
unfolding scan
run_scan_by limit m i is' t ts again None opens done = let wrong : None ≡ Some [] = sym (ap (λ (r : Run). r.left) (run_misfit m i is' t ts opens)) ∙ done.left in absurd cc
run_scan_by limit m i is' t ts again (Some body) opens done =
    let r = run (remember m i t) (body ++ is') ts in
    let done' : Completes limit (before (depth i t ∷ []) (meets m i t) r) = subst (Completes limit) (run_step m i is' t ts body opens) done in
    let parts = and_parts (meets m i t) r.fair done'.fair in
    let rest = again (remember m i t) (body ++ is') (record { left = done'.left; fair = parts.1; within = done'.within.1 }) in
    let shallow = le-ltb limit (depth i t) done'.within.0 in
    (rest.0, scan_goes limit m i is' t ts body opens shallow parts.0 ∙ rest.1)

pub run_scan : (limit : ℕ) (ts : List Token) (m : Memory) (is' : List Item) → Completes limit (run m is' ts) → (k : Memory) × (scan limit m is' ts ≡ got (k, []))
unfolding scan run
run_scan limit [] m [] done = (m, refl)
run_scan limit [] m (i ∷ is') done = let wrong : Some (i ∷ is') ≡ Some [] = done.left in absurd cc
run_scan limit (t ∷ ts) m [] done = let wrong : None ≡ Some [] = done.left in absurd cc
run_scan limit (t ∷ ts) m (i ∷ is') done = run_scan_by limit m i is' t ts (run_scan limit ts) (opened i t) refl done
