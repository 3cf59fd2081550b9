use Rattle.std.proofs.Common.{◌≡◌, ◌≤◌, map, ◌++◌, drop}
use Rattle.std.specs.Prelude.{slice_range}
use Rattle.vd_shapes.specs.Rows.{plain, pieces, pieces_from}
use Rattle.vd_shapes.proofs.rows.productions.Given as goal

abbrev pub invariant-loop-index : goal.invariant-loop-index
invariant-loop-index l = (l.start ≤ l.index) × ((map plain l.rows.items ++ pieces_from (slice_range l.flat l.start l.index) (drop l.index l.flat)) ≡ pieces l.flat)
