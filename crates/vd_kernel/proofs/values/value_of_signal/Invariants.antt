use Rattle.std.proofs.Common.{◌≡◌, drop, map}
use Rattle.vd_values.specs.declared.logic.Logic.TheVariants.{Z}
use Rattle.vd_values.specs.Resolution.{folded, resolution_of}
use Rattle.vd_kernel.specs.Values.{logic_of, source_value}
use Rattle.vd_kernel.specs.SignalValues.{value_at}
use Rattle.vd_kernel.proofs.values.value_of_signal.Given as goal

-- with the sources that are left folded in, the value is what all of them fold to
abbrev pub invariant-loop-source : goal.invariant-loop-source
invariant-loop-source l =
    record {
      so_far : folded l.value (map logic_of (map (source_value l.drivers (value_at l.values)) (drop l.source-index l.source-items)))
          ≡ folded Z (map logic_of (map (source_value l.drivers (value_at l.values)) l.source-items));
      again : resolution_of Z l.value ≡ l.value;
    }
