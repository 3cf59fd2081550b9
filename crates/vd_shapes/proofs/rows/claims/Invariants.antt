use Rattle.std.proofs.Common.{◌≡◌, map, ◌++◌, drop}
use Rattle.vd_shapes.specs.Rows.{plain, plain_claim, claims_from, claims_of}
use Rattle.vd_shapes.proofs.RowLemmas.{begun_row}
use Rattle.vd_shapes.proofs.rows.claims.Given as goal

abbrev pub invariant-loop-row : goal.invariant-loop-row
invariant-loop-row l = (map plain_claim l.claims.items ++ claims_from l.empties (begun_row l.begun) (map plain (drop l.row-index l.rows))) ≡ claims_of l.empties (map plain l.rows)
