-- A grammar of sums and products with brackets, written out.
use Rattle.std.specs.Prelude.{ℕ, List, [], ◌∷◌}
use Rattle.vd_gram.specs.declared.tables.Production.{Production}
use Rattle.vd_gram.specs.declared.tables.Table.{Table}
use Rattle.vd_gram.specs.Same.{listed}

-- a production: what stands on its left becomes what stands on its right
abbrev becomes : ℕ → List ℕ → Production
becomes left right = record { left = left; right = listed right }

-- the terminals are 0 number, 1 plus, 2 times, 3 and 4 brackets; 5 is a sum, 6 addends, 7 a product, 8 factors, 9 a factor
abbrev pub arithmetic_grammar : Table
arithmetic_grammar = record {
  terminals = 5;
  start = 5;
  marked = listed (5 ∷ []);
  productions =
      listed
      (becomes 5 (7 ∷ 6 ∷ []) ∷ becomes 6 (1 ∷ 7 ∷ 6 ∷ []) ∷ becomes 6 [] ∷ becomes 7 (9 ∷ 8 ∷ []) ∷ becomes 8 (2 ∷ 9 ∷ 8 ∷ []) ∷ becomes 8 [] ∷ becomes 9 (0 ∷ []) ∷ becomes 9 (3 ∷ 5 ∷ 4 ∷ []) ∷ []);
  claims = listed [];
}
