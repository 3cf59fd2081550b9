use Rattle.std.proofs.Common.{◌≤◌, ◌-◌, length}
use Rattle.vd_name_rows.proofs.names.count_regions.Given as goal

abbrev pub invariant-loop-low : goal.invariant-loop-low
invariant-loop-low l = record {
  below : l.low ≤ length l.regions.regions;
  above : length l.regions.regions ≤ l.high;
}

abbrev pub decreases-loop-low : goal.decreases-loop-low
decreases-loop-low l = l.high - l.low
