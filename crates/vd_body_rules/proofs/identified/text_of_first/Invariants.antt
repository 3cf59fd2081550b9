use Rattle.std.proofs.Common.{◌≡◌}
use Rattle.vd_body_rules.proofs.identified.text_of_first.Given as goal
use Rattle.vd_forest.specs.Forest.{size}
use Rattle.vd_meaning.specs.Facets.{nth}
use Rattle.vd_meaning.specs.Meanings.{meanings}
use Rattle.vd_meaning.specs.Tables.{Table}

abbrev pub invariant-loop-first : goal.invariant-loop-first
invariant-loop-first l = (t : Table) → (nth 0 (meanings t l.rest)).text ≡ (nth 0 (meanings t l.trees)).text

abbrev pub decreases-loop-first : goal.decreases-loop-first
decreases-loop-first l = size l.rest
