use Rattle.std.proofs.Common.{◌≡◌, ◌++◌, take}
use Rattle.vd_first_names.specs.Maps.{further_rows_text}
use Rattle.vd_first_names.proofs.map_writing.push_further.Given as goal

abbrev pub invariant-loop-row : goal.invariant-loop-row
invariant-loop-row l = l.out.items ≡ l.fn.out.items ++ further_rows_text (take l.row-index l.rows)
