use Rattle.std.proofs.Common.{◌≡◌}
use Rattle.vd_forest.specs.Forest.{size}
use Rattle.vd_meaning.specs.Tables.{Table}
use Rattle.vd_port_facts.specs.Reading.{formal_first}
use Rattle.vd_port_facts.proofs.actuals.formal_of_first.Given as goal

abbrev pub invariant-loop-first : goal.invariant-loop-first
invariant-loop-first l = (t : Table) → formal_first t l.rest ≡ formal_first t l.trees

abbrev pub decreases-loop-first : goal.decreases-loop-first
decreases-loop-first l = size l.rest
