use Rattle.std.proofs.Common.{◌≡◌, drop}
use Rattle.vd_notes.specs.Rows.{row_in}
use Rattle.vd_notes.proofs.declares.row_in.Given as goal

abbrev pub invariant-loop-row : goal.invariant-loop-row
invariant-loop-row l = row_in l.form (drop l.row-index l.rows) ≡ row_in l.form l.rows
