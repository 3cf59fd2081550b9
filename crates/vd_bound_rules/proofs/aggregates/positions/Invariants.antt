use Rattle.std.proofs.Common.{◌+◌, ◌≡◌}
use Rattle.vd_forest.specs.Forest.{tree_count}
use Rattle.vd_meaning.specs.Brackets.{positional_count}
use Rattle.vd_meaning.specs.Meanings.{meanings}
use Rattle.vd_meaning.specs.Tables.{Table}
use Rattle.vd_bound_rules.proofs.aggregates.positions.Given as goal

abbrev pub invariant-loop-first : goal.invariant-loop-first
invariant-loop-first l = (t : Table) → positional_count (meanings t l.elements) ≡ l.count + positional_count (meanings t l.rest)

abbrev pub decreases-loop-first : goal.decreases-loop-first
decreases-loop-first l = tree_count l.rest
