use Rattle.std.proofs.Common.{◌≡◌, drop}
use Rattle.vd_templates.specs.Templates.{row_in}
use Rattle.vd_writing.proofs.finding.head_at.Given as goal

abbrev pub invariant-loop-at : goal.invariant-loop-at
invariant-loop-at l = row_in l.state l.form (drop l.at l.table) ≡ row_in l.state l.form l.table
