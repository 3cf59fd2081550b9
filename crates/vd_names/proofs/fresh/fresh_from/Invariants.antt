use Rattle.vd_names.specs.Names.{AreUsed}
use Rattle.vd_names.proofs.fresh.fresh_from.Given as goal

abbrev pub invariant-loop-number : goal.invariant-loop-number
invariant-loop-number l = AreUsed l.used l.wanted l.first l.number
