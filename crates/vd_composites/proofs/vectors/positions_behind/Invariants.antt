use Rattle.std.proofs.Common.{◌≡◌, ◌++◌, drop}
use Rattle.std.specs.Prelude.{Ok}
use Rattle.vd_composites.specs.Stops.{◌>>=◌}
use Rattle.vd_composites.specs.Vectors.{positions_at}
use Rattle.vd_composites.proofs.vectors.positions_behind.Given as goal

abbrev pub invariant-loop-node : goal.invariant-loop-node
invariant-loop-node l = (positions_at l.fn.of (drop l.node-index l.nodes) >>= λ ps. Ok (l.positions.items ++ ps)) ≡ positions_at l.fn.of l.nodes
