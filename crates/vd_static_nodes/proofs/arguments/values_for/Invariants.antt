use Rattle.std.proofs.Common.{◌≡◌, ◌++◌, drop}
use Rattle.vd_static_nodes.specs.Arguments.{values_for}
use Rattle.vd_static_nodes.proofs.arguments.values_for.Given as goal

abbrev pub invariant-loop-position : goal.invariant-loop-position
invariant-loop-position l = l.values.items ++ values_for l.position (drop l.position l.parameters) l.parts ≡ values_for 0 l.parameters l.parts
