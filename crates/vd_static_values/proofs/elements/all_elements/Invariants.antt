use Rattle.vd_static_values.specs.Levels.{HaveElements}
use Rattle.vd_static_values.proofs.elements.all_elements.Given as goal

abbrev pub invariant-loop-most : goal.invariant-loop-most
invariant-loop-most l = HaveElements l.arrays l.pieces.items

abbrev pub decreases-loop-most : goal.decreases-loop-most
decreases-loop-most l = l.most
