use Rattle.vd_forest.specs.Forest.{size}
use Rattle.vd_value_rules.specs.Indicated.{texts_in}
use Rattle.vd_static_values.proofs.CharacterLemmas.{IsSoFar}
use Rattle.vd_static_values.proofs.characters.characters.Given as goal

abbrev pub invariant-loop-first : goal.invariant-loop-first
invariant-loop-first l = IsSoFar l.table.items l.place (texts_in l.left) (texts_in l.literals)

abbrev pub decreases-loop-first : goal.decreases-loop-first
decreases-loop-first l = size l.left
