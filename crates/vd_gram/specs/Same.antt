-- Tables that say the same, wherever their lists stand in memory. So a table of a program can be held against one that is
-- written out in a definition.
use Rattle.std.specs.Prelude.{ℕ, ◌≡◌, List, [], ◌∷◌}
use Rattle.std.proofs.Common.{Bor}
use Rattle.vd_gram.specs.declared.tables.Production.{Production}
use Rattle.vd_gram.specs.declared.tables.Table.{Table}
use Rattle.vd_gram.specs.Derivations.{Trees, IsDerivation, IsParse, IsRefused, IsTooDeep}

-- a list of a table that is written out in a definition. Where it stands in memory is made up
abbrev pub listed : {X : Type 0} → List X → Bor (List X)
listed xs = record { ref_ptr = (0, 0); now = xs }

abbrev pub AreSameProductions : List Production → List Production → Type 0
AreSameProductions [] [] = Unit {0}
AreSameProductions [] (q ∷ qs) = ⊥
AreSameProductions (p ∷ ps) [] = ⊥
AreSameProductions (p ∷ ps) (q ∷ qs) = (p.left ≡ q.left) × (p.right.now ≡ q.right.now) × AreSameProductions ps qs

-- the tables have one grammar and the same marked nonterminals. Claims don't count
pub record IsSameGrammar (t u : Table) : Type 0 where
  pub terminals : t.terminals ≡ u.terminals
  pub start : t.start ≡ u.start
  pub marked : t.marked.now ≡ u.marked.now
  pub productions : AreSameProductions t.productions.now u.productions.now

-- what is said of a grammar and a text is said of the other grammar
pub record SaysTheSame (t u : Table) (symbols : List ℕ) (deep : ℕ) : Type 0 where
  pub derivations : (f : Trees) → IsDerivation t f → IsDerivation u f
  pub parses : (f : Trees) → IsParse t symbols deep f → IsParse u symbols deep f
  pub refusals : (place : ℕ) → IsRefused t symbols deep place → IsRefused u symbols deep place
  pub too_deep : IsTooDeep t symbols deep → IsTooDeep u symbols deep

abbrev pub SayTheSame : Type 0
SayTheSame = (t u : Table) → IsSameGrammar t u → (symbols : List ℕ) (deep : ℕ) → SaysTheSame t u symbols deep × SaysTheSame u t symbols deep
