use Rattle.std.proofs.Common.{◌≡◌, ◌≤◌, map, drop, length}
use Rattle.vd_predefined.specs.Seen.{seen_row}
use Rattle.vd_predefined.specs.Given.{with_rows}
use Rattle.vd_predefined.specs.GivenClashes.{clash_of_rows}
use Rattle.vd_predefined.proofs.packages.enter_rows.Given as goal

abbrev pub invariant-loop-row : goal.invariant-loop-row
invariant-loop-row l = record {
  grows : length l.fn.regions.regions ≤ length l.regions.regions;
  same : with_rows l.revision l.regions l.region (map seen_row (drop l.row-index l.rows))
      ≡ with_rows l.revision l.fn.regions l.region (map seen_row l.rows);
  same_clash : clash_of_rows l.revision l.regions l.region (map seen_row (drop l.row-index l.rows))
      ≡ clash_of_rows l.revision l.fn.regions l.region (map seen_row l.rows);
}
