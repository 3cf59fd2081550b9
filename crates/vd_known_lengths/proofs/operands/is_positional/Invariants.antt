use Rattle.std.proofs.Common.{◌≡◌}
use Rattle.vd_forest.specs.Forest.{size}
use Rattle.vd_meaning.specs.Tables.{Table}
use Rattle.vd_known_lengths.proofs.OperandLemmas.{positional_at}
use Rattle.vd_known_lengths.proofs.operands.is_positional.Given as goal

abbrev pub invariant-loop-first : goal.invariant-loop-first
invariant-loop-first l = (t : Table) → positional_at t l.rest ≡ positional_at t l.trees

abbrev pub decreases-loop-first : goal.decreases-loop-first
decreases-loop-first l = size l.rest
