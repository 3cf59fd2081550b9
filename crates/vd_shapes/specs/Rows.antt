-- Tables whose rows stand in one flat list of symbols. So a long table is a few constants without references in them, and a
-- definition names these constants themselves.
use Rattle.std.specs.Prelude.{ℕ, ◌≡◌, ◌∷◌, ◌++◌, List, [], Bool, true, false, nat_eq, map}
use Rattle.vd_gram.specs.declared.tables.Production.{Production}
use Rattle.vd_gram.specs.declared.tables.Claim.{Claim}
use Rattle.vd_gram.specs.declared.tables.Table.{Table}
use Rattle.vd_gram.specs.Claims.{has}
use Rattle.vd_gram.specs.Same.{listed}
use Rattle.vd_shapes.specs.declared.rows.Lists.{Lists}

abbrev pub row_end : ℕ
row_end = 65534

-- a row that has begun is one of the rows
abbrev pub kept : List ℕ → List (List ℕ) → List (List ℕ)
kept [] rows = rows
kept (x ∷ xs) rows = (x ∷ xs) ∷ rows

-- the rows, where a first row has begun
abbrev pub pieces_from : List ℕ → List ℕ → List (List ℕ)
pieces_from row [] = []
pieces_from row (x ∷ xs) = elim (nat_eq x row_end) [ true ↦ kept row (pieces_from [] xs) | false ↦ pieces_from (row ++ x ∷ []) xs ]

-- the rows of a flat list, each of which ends in a mark
abbrev pub pieces : List ℕ → List (List ℕ)
pieces xs = pieces_from [] xs

abbrev pub plain : Production → List ℕ
plain p = p.left ∷ p.right.now

-- a claim without the places of its lists in memory
pub record PlainClaim : Type 0 where
  pub symbol : ℕ
  pub empty : Bool
  pub first : List ℕ
  pub follow : List ℕ
  pub rank : ℕ

abbrev pub plain_claim : Claim → PlainClaim
plain_claim c = record { symbol = c.symbol; empty = c.empty; first = c.first.now; follow = c.follow.now; rank = c.rank }

-- the claims of rows, where a first row may have been read
abbrev pub claims_from : List ℕ → List ℕ → List (List ℕ) → List PlainClaim
claims_from es begun [] = []
claims_from es [] (row ∷ rows) = claims_from es row rows
claims_from es (s ∷ first) ([] ∷ rows) = claims_from es (s ∷ first) rows
claims_from es (s ∷ first) ((rank ∷ follow) ∷ rows) = record { symbol = s; empty = has es s; first = first; follow = follow; rank = rank } ∷ claims_from es [] rows

abbrev pub claims_of : List ℕ → List (List ℕ) → List PlainClaim
claims_of es rows = claims_from es [] rows

-- the table has these lists
pub record IsListed (lists : Lists) (t : Table) : Type 0 where
  pub terminals : t.terminals ≡ lists.terminals
  pub start : t.start ≡ lists.start
  pub marked : t.marked.now ≡ lists.marked.now
  pub productions : map plain t.productions.now ≡ pieces lists.rows.now
  pub claims : map plain_claim t.claims.now ≡ claims_of lists.empties.now (pieces lists.claims.now)

-- ---- the table of some lists

abbrev pub production_of : List ℕ → Production
production_of [] = record { left = 0; right = listed [] }
production_of (x ∷ xs) = record { left = x; right = listed xs }

abbrev pub claim_of_plain : PlainClaim → Claim
claim_of_plain c = record { symbol = c.symbol; empty = c.empty; first = listed c.first; follow = listed c.follow; rank = c.rank }

-- the table of some lists. Where its lists stand in memory is made up
abbrev pub table_of : Lists → Table
table_of lists = record {
  terminals = lists.terminals;
  start = lists.start;
  marked = lists.marked;
  productions = listed (map production_of (pieces lists.rows.now));
  claims = listed (map claim_of_plain (claims_of lists.empties.now (pieces lists.claims.now)));
}
