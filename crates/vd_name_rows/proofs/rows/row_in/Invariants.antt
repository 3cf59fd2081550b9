use Rattle.std.proofs.Common.{◌≡◌, drop, map}
use Rattle.vd_name_rows.specs.Rows.{seen_row, row_in}
use Rattle.vd_name_rows.proofs.rows.row_in.Given as goal

abbrev pub invariant-loop-row : goal.invariant-loop-row
invariant-loop-row l = row_in l.form (map seen_row (drop l.row-index l.rows)) ≡ row_in l.form (map seen_row l.rows)
