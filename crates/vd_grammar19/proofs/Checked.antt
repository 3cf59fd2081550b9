-- The table is checked, wherever its lists stand in memory.
use Rattle.std.specs.Prelude.{◌≡◌, Bool, true, ◌&&◌, IsTrue}
use Rattle.std.proofs.Common.{refl, ap, ◌∙◌}
use Rattle.vd_gram.specs.declared.tables.Table.{Table}
use Rattle.vd_gram.specs.Claims.{is_checked, claims_are_closed, ranks_show, all_told_apart}
use Rattle.vd_gram.specs.Same.{IsSameGrammar}
use Rattle.vd_shapes.specs.declared.rows.Lists.{Lists}
use Rattle.vd_shapes.specs.Rows.{IsListed, pieces, claims_of}
use Rattle.vd_shapes.proofs.PlacedLemmas.{Spots, spotted, holds_listed, same_grammar}
use Rattle.vd_grammar19.specs.Grammar.{lists, grammar, AreTheLists}

closed : (p : Spots) → claims_are_closed (spotted p lists) ≡ true
closed p = refl

shown : (p : Spots) → ranks_show (spotted p lists) ≡ true
shown p = refl

apart : (p : Spots) → all_told_apart (spotted p lists) (spotted p lists).productions.now ≡ true
apart p = refl

both : (a b : Bool) → a ≡ true → b ≡ true → (a && b) ≡ true
both a b e f = ap (λ x. x && b) e ∙ f

all_hold : (t : Table) → claims_are_closed t ≡ true → ranks_show t ≡ true → all_told_apart t t.productions.now ≡ true → is_checked t ≡ true
unfolding is_checked
all_hold t a b c = both (claims_are_closed t && ranks_show t) (all_told_apart t t.productions.now) (both (claims_are_closed t) (ranks_show t) a b) c

spotted_is_checked : (p : Spots) → is_checked (spotted p lists) ≡ true
spotted_is_checked p = all_hold (spotted p lists) (closed p) (shown p) (apart p)

-- the lists of the code are those of the definition
listed_so : (given : Lists) (t : Table) → AreTheLists given → IsListed given t → IsListed lists t
listed_so given t a l = record {
  terminals = l.terminals ∙ a.terminals;
  start = l.start ∙ a.start;
  marked = l.marked ∙ a.marked;
  productions = l.productions ∙ ap pieces a.rows;
  claims = l.claims ∙ (ap (λ es. claims_of es (pieces given.claims.now)) a.empties ∙ ap (λ xs. claims_of lists.empties.now (pieces xs)) a.claims);
}

pub checked : (given : Lists) (t : Table) → AreTheLists given → IsListed given t → IsTrue (is_checked t)
checked given t a l = holds_listed (λ u. is_checked u ≡ true) lists spotted_is_checked t (listed_so given t a l)

pub same : (given : Lists) (t : Table) → AreTheLists given → IsListed given t → IsSameGrammar t grammar
same given t a l = same_grammar lists t (listed_so given t a l)

-- the definition has these lists too
listed_grammar : IsListed lists grammar
listed_grammar = record { terminals = refl; start = refl; marked = refl; productions = refl; claims = refl }

pub grammar_is_checked : IsTrue (is_checked grammar)
grammar_is_checked = holds_listed (λ u. is_checked u ≡ true) lists spotted_is_checked grammar listed_grammar
