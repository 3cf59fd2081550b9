use Rattle.std.proofs.Common.{◌≡◌, drop}
use Rattle.std.specs.Option.{option_or}
use Rattle.vd_visible.specs.Sights.{oldest_port}
use Rattle.vd_visible.proofs.surroundings.oldest_port.Given as goal

abbrev pub invariant-loop-number : goal.invariant-loop-number
invariant-loop-number l =
    option_or (oldest_port l.regions (drop l.number-index l.newest)) l.oldest ≡ oldest_port l.regions l.newest
