use Rattle.std.proofs.Common.{◌-◌, ◌≤◌}
use Rattle.vd_derivations93.specs.Depths.{IsBetween}
use Rattle.vd_derivations93.proofs.depth.depth_of_symbols.Given as goal

abbrev pub invariant-loop-low : goal.invariant-loop-low
invariant-loop-low l = record {
  between : IsBetween l.table.table l.symbols l.low l.high;
  fits : l.high ≤ 4294967295;
}

abbrev pub decreases-loop-low : goal.decreases-loop-low
decreases-loop-low l = l.high - l.low
