use Rattle.std.proofs.Common.{Ok, drop, ◌++◌, ◌≡◌}
use Rattle.vd_composites.specs.Stops.{◌>>=◌}
use Rattle.vd_value_rules.specs.Indicated.{indicated_in}
use Rattle.vd_static_values.specs.Levels.{all_whole}
use Rattle.vd_static_values.proofs.converting.all_fitted.Given as goal

abbrev pub invariant-loop-value : goal.invariant-loop-value
invariant-loop-value l =
    (all_whole (indicated_in l.subtype).subtype (drop l.value-index l.values) >>= λ vs. Ok (l.made.items ++ vs)) ≡ all_whole (indicated_in l.subtype).subtype l.values
