use Rattle.std.proofs.Common.{◌≡◌, drop}
use Rattle.vd_static_nodes.specs.Arguments.{element_at}
use Rattle.vd_static_nodes.proofs.arguments.element_at.Given as goal

abbrev pub invariant-loop-part : goal.invariant-loop-part
invariant-loop-part l = element_at l.left (drop l.part-index l.parts) ≡ element_at l.fn.position l.parts
