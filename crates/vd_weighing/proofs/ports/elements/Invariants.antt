use Rattle.std.proofs.Common.{List}
use Rattle.vd_declarations.specs.declared.declarations.Declaration.{Declaration}
use Rattle.vd_forest.specs.Forest.{size}
use Rattle.vd_weighing.specs.Weights.{elements}
use Rattle.vd_weighing.proofs.LimitLemmas.{IsCounted}
use Rattle.vd_weighing.proofs.ports.elements.Given as goal

abbrev pub invariant-loop-first : goal.invariant-loop-first
invariant-loop-first l = (ds : List Declaration) → IsCounted l.weight (elements ds l.free l.known l.left) (elements ds l.ports l.known l.parts)

abbrev pub decreases-loop-first : goal.decreases-loop-first
decreases-loop-first l = size l.left
