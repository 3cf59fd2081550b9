use Rattle.std.proofs.Common.{◌≡◌, drop}
use Rattle.vd_vectors.specs.Logical.{folded}
use Rattle.vd_vectors.proofs.lists.fold.Given as goal

abbrev pub invariant-loop-next : goal.invariant-loop-next
invariant-loop-next l = folded l.fn.operator l.value (drop l.next-index l.values) ≡ folded l.fn.operator l.fn.first l.values
