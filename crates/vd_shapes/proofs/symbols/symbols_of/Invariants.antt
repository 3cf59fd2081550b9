use Rattle.std.proofs.Common.{◌≡◌, ◌-◌, ◌<◌, length, take}
use Rattle.vd_shapes.specs.Reading.{symbols_in}
use Rattle.vd_shapes.proofs.symbols.symbols_of.Given as goal

abbrev pub invariant-loop-number : goal.invariant-loop-number
invariant-loop-number l = record {
  some : 0 < l.number;
  so_far : l.symbols.items ≡ symbols_in (take l.number l.tokens);
}

abbrev pub decreases-loop-number : goal.decreases-loop-number
decreases-loop-number l = length l.tokens - l.number
