use Rattle.std.proofs.Common.{◌≡◌, map, take}
use Rattle.vd_composites.specs.Scalars.{position_of}
use Rattle.vd_choice_rules.proofs.positions.positions_of.Given as goal

abbrev pub invariant-loop-scalar : goal.invariant-loop-scalar
invariant-loop-scalar l = l.positions.items ≡ map position_of (take l.scalar-index l.scalars)
