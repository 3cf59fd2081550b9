use Rattle.std.proofs.Common.{◌≡◌}
use Rattle.vd_forest.specs.Forest.{size}
use Rattle.vd_meaning.specs.Tables.{Table}
use Rattle.vd_known_lengths.proofs.OperandLemmas.{mark_at}
use Rattle.vd_known_lengths.proofs.operands.mark_of.Given as goal

abbrev pub invariant-loop-first : goal.invariant-loop-first
invariant-loop-first l = (t : Table) → mark_at t l.rest ≡ mark_at t l.trees

abbrev pub decreases-loop-first : goal.decreases-loop-first
decreases-loop-first l = size l.rest
