use Rattle.std.proofs.Common.{◌≡◌}
use Rattle.vd_forest.specs.Forest.{size}
use Rattle.vd_first_accept.specs.Unknown.{texts_in, with_all}
use Rattle.vd_first_accept.proofs.unknown.add_texts.Given as goal

abbrev pub invariant-loop-first : goal.invariant-loop-first
invariant-loop-first l = with_all l.ports (texts_in l.left) ≡ with_all l.fn.ports (texts_in l.fn.leaves)

abbrev pub decreases-loop-first : goal.decreases-loop-first
decreases-loop-first l = size l.left
