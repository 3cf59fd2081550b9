use Rattle.std.proofs.Common.{◌≡◌, drop}
use Rattle.std.specs.Prelude.{Ok}
use Rattle.vd_composites.specs.Stops.{◌>>=◌}
use Rattle.vd_composites.specs.Composites.{items_of, joined}
use Rattle.vd_subtypes.specs.Positional.{fit_each_head}
use Rattle.vd_subtypes.proofs.positional.fit_each.Given as goal

abbrev pub invariant-loop-value : goal.invariant-loop-value
invariant-loop-value l = (fit_each_head l.fn.head (items_of (drop l.value-index l.values)) >>= λ ws. Ok (joined l.items ws)) ≡ fit_each_head l.fn.head (items_of l.values)
