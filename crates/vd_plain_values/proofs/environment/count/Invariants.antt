use Rattle.std.proofs.Common.{◌≡◌, ◌+◌}
use Rattle.vd_forest.specs.Forest.{size}
use Rattle.vd_composites.specs.Subtypes.{number_of}
use Rattle.vd_plain_values.specs.Plain.{subtypes_in}
use Rattle.vd_plain_values.proofs.environment.count.Given as goal

abbrev pub invariant-loop-first : goal.invariant-loop-first
invariant-loop-first l = l.total + number_of (subtypes_in l.left) ≡ number_of (subtypes_in l.parts)

abbrev pub decreases-loop-first : goal.decreases-loop-first
decreases-loop-first l = size l.left
