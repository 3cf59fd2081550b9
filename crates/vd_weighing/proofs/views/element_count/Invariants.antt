use Rattle.std.proofs.Common.{List}
use Rattle.vd_declarations.specs.declared.declarations.Declaration.{Declaration}
use Rattle.vd_forest.specs.Forest.{size}
use Rattle.vd_weighing.specs.Weights.{element_count}
use Rattle.vd_weighing.proofs.LimitLemmas.{IsCounted}
use Rattle.vd_weighing.proofs.views.element_count.Given as goal

abbrev pub invariant-loop-first : goal.invariant-loop-first
invariant-loop-first l = (ds : List Declaration) → IsCounted l.count (element_count ds l.left l.known) (element_count ds l.elements l.known)

abbrev pub decreases-loop-first : goal.decreases-loop-first
decreases-loop-first l = size l.left
