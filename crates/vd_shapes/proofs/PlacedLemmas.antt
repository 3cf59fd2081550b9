-- A table of some lists, wherever they stand in memory.
use Rattle.std.specs.Prelude.{ℕ, ◌≡◌, suc, zero, List, [], ◌∷◌, map}
use Rattle.std.proofs.Common.{refl, sym, ap, ◌∙◌, subst, Bor}
use Rattle.vd_gram.specs.declared.tables.Production.{Production}
use Rattle.vd_gram.specs.declared.tables.Claim.{Claim}
use Rattle.vd_gram.specs.declared.tables.Table.{Table}
use Rattle.vd_gram.specs.Same.{IsSameGrammar, AreSameProductions}
use Rattle.vd_shapes.specs.declared.rows.Lists.{Lists}
use Rattle.vd_shapes.specs.Rows.{plain, pieces, PlainClaim, plain_claim, claims_of, IsListed, production_of, table_of}

abbrev pub Spot : Type 0
Spot = ℕ × ℕ

abbrev pub at_spot : {X : Type 0} → Spot → X → Bor X
at_spot p x = record { ref_ptr = p; now = x }

-- the productions of rows, whose rights stand at some spots
abbrev pub spotted_rows : (ℕ → Spot) → List (List ℕ) → List Production
spotted_rows q [] = []
spotted_rows q ([] ∷ rows) = spotted_rows q rows
spotted_rows q ((x ∷ xs) ∷ rows) = record { left = x; right = at_spot (q 0) xs } ∷ spotted_rows (λ k. q (suc k)) rows

abbrev pub spotted_claims : (ℕ → Spot) → (ℕ → Spot) → List PlainClaim → List Claim
spotted_claims f g [] = []
spotted_claims f g (c ∷ cs) =
    record { symbol = c.symbol; empty = c.empty; first = at_spot (f 0) c.first; follow = at_spot (g 0) c.follow; rank = c.rank }
    ∷ spotted_claims (λ k. f (suc k)) (λ k. g (suc k)) cs

pub record Spots : Type 0 where
  pub marked : Spot
  pub productions : Spot
  pub claims : Spot
  pub rights : ℕ → Spot
  pub firsts : ℕ → Spot
  pub follows : ℕ → Spot

abbrev pub spotted : Spots → Lists → Table
spotted p lists = record {
  terminals = lists.terminals;
  start = lists.start;
  marked = at_spot p.marked lists.marked.now;
  productions = at_spot p.productions (spotted_rows p.rights (pieces lists.rows.now));
  claims = at_spot p.claims (spotted_claims p.firsts p.follows (claims_of lists.empties.now (pieces lists.claims.now)));
}

-- ---- each table of the lists is such a table

abbrev rights_of : List Production → ℕ → Spot
rights_of [] k = (0, 0)
rights_of (p ∷ ps) zero = p.right.ref_ptr
rights_of (p ∷ ps) (suc k) = rights_of ps k

abbrev firsts_of : List Claim → ℕ → Spot
firsts_of [] k = (0, 0)
firsts_of (c ∷ cs) zero = c.first.ref_ptr
firsts_of (c ∷ cs) (suc k) = firsts_of cs k

abbrev follows_of : List Claim → ℕ → Spot
follows_of [] k = (0, 0)
follows_of (c ∷ cs) zero = c.follow.ref_ptr
follows_of (c ∷ cs) (suc k) = follows_of cs k

rows_stand : (ps : List Production) → ps ≡ spotted_rows (rights_of ps) (map plain ps)
rows_stand [] = refl
rows_stand (p ∷ ps) = λ i. p ∷ rows_stand ps i

claims_stand : (cs : List Claim) → cs ≡ spotted_claims (firsts_of cs) (follows_of cs) (map plain_claim cs)
claims_stand [] = refl
claims_stand (c ∷ cs) = λ i. c ∷ claims_stand cs i

abbrev spots_of : Table → Spots
spots_of t = record {
  marked = t.marked.ref_ptr;
  productions = t.productions.ref_ptr;
  claims = t.claims.ref_ptr;
  rights = rights_of t.productions.now;
  firsts = firsts_of t.claims.now;
  follows = follows_of t.claims.now;
}

stands : (lists : Lists) (t : Table) → IsListed lists t → t ≡ spotted (spots_of t) lists
stands lists t l = λ i. record {
  terminals = l.terminals i;
  start = l.start i;
  marked = at_spot t.marked.ref_ptr (l.marked i);
  productions = at_spot t.productions.ref_ptr ((rows_stand t.productions.now ∙ ap (spotted_rows (rights_of t.productions.now)) l.productions) i);
  claims = at_spot t.claims.ref_ptr ((claims_stand t.claims.now ∙ ap (spotted_claims (firsts_of t.claims.now) (follows_of t.claims.now)) l.claims) i);
}

-- what holds of the lists at all spots holds of each table of them
pub holds_listed : (P : Table → Type 0) (lists : Lists) → ((p : Spots) → P (spotted p lists)) → (t : Table) → IsListed lists t → P t
holds_listed P lists h t l = subst P (sym (stands lists t l)) (h (spots_of t))

-- ---- the grammar

same_rows : (q : ℕ → Spot) (rows : List (List ℕ)) (ps : List Production) → map plain ps ≡ rows → AreSameProductions ps (map production_of rows)
same_rows q rows ps e = subst (λ rs. AreSameProductions ps (map production_of rs)) e (go ps) where
  go : (ps : List Production) → AreSameProductions ps (map production_of (map plain ps))
  go [] = tt
  go (p ∷ ps) = (refl, refl, go ps)

pub same_grammar : (lists : Lists) (t : Table) → IsListed lists t → IsSameGrammar t (table_of lists)
same_grammar lists t l = record {
  terminals = l.terminals;
  start = l.start;
  marked = l.marked;
  productions = same_rows (λ k. (0, 0)) (pieces lists.rows.now) t.productions.now l.productions;
}
