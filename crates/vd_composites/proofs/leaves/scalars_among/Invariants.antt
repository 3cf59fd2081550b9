use Rattle.std.proofs.Common.{◌≡◌, ◌++◌, drop}
use Rattle.vd_composites.specs.Leaves.{scalars_in}
use Rattle.vd_composites.proofs.leaves.scalars_among.Given as goal

abbrev pub invariant-loop-node : goal.invariant-loop-node
invariant-loop-node l = l.scalars.items ++ scalars_in (drop l.node-index l.nodes) ≡ scalars_in l.nodes
