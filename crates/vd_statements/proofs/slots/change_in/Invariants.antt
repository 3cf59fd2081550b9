use Rattle.std.proofs.Common.{◌≡◌, drop}
use Rattle.vd_statements.specs.Slots.{change_in}
use Rattle.vd_statements.proofs.slots.change_in.Given as goal

abbrev pub invariant-loop-row : goal.invariant-loop-row
invariant-loop-row l = change_in l.round l.at (drop l.row-index l.rows) ≡ change_in l.round l.at l.rows
