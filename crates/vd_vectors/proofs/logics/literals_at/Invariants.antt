use Rattle.std.proofs.Common.{◌≡◌, ◌++◌, drop}
use Rattle.std.specs.Prelude.{Ok}
use Rattle.vd_composites.specs.Stops.{◌>>=◌}
use Rattle.vd_vectors.specs.Logics.{logics_at}
use Rattle.vd_vectors.proofs.logics.literals_at.Given as goal

abbrev pub invariant-loop-position : goal.invariant-loop-position
invariant-loop-position l = (logics_at l.fn.of (drop l.position-index l.positions) >>= λ xs. Ok (l.values.items ++ xs)) ≡ logics_at l.fn.of l.positions
