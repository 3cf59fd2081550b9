use Rattle.std.proofs.Common.{◌≡◌, take}
use Rattle.vd_known_units.specs.Copies.{with_parameters_there}
use Rattle.vd_known_units.proofs.copies.with_parameters.Given as goal

abbrev pub invariant-loop-pair : goal.invariant-loop-pair
invariant-loop-pair l = l.made.items ≡ with_parameters_there l.declarations (take l.pair-index l.pairs)
