use Rattle.std.proofs.Common.{◌≡◌}
use Rattle.vd_forest.specs.Forest.{size}
use Rattle.vd_meaning.specs.Tables.{Table}
use Rattle.vd_operations.proofs.PassingLemmas.{declared_at}
use Rattle.vd_operations.proofs.reading.declaration_of.Given as goal

abbrev pub invariant-loop-first : goal.invariant-loop-first
invariant-loop-first l = (t : Table) → declared_at t l.rest ≡ declared_at t l.trees

abbrev pub decreases-loop-first : goal.decreases-loop-first
decreases-loop-first l = size l.rest
