use Rattle.std.proofs.Common.{◌≡◌, ◌+◌}
use Rattle.vd_composites.specs.Subtypes.{number_of}
use Rattle.vd_forest.specs.Forest.{size}
use Rattle.vd_value_rules.specs.Indicated.{fields_in}
use Rattle.vd_meaning.specs.Declarations.{subtypes_of}
use Rattle.vd_value_rules.proofs.subtypes.count.Given as goal

abbrev pub invariant-loop-first : goal.invariant-loop-first
invariant-loop-first l = l.total + number_of (subtypes_of (fields_in l.left)) ≡ number_of (subtypes_of (fields_in l.parts))

abbrev pub decreases-loop-first : goal.decreases-loop-first
decreases-loop-first l = size l.left
