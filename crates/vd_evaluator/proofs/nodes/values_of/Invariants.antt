use Rattle.vd_evaluator.proofs.SenseLemmas.{HaveSoFar}
use Rattle.vd_evaluator.proofs.nodes.values_of.Given as goal

abbrev pub invariant-loop-part : goal.invariant-loop-part
invariant-loop-part l = HaveSoFar l.parts l.part-index l.values.items
