use Rattle.std.proofs.Common.{◌≡◌, ◌++◌, length}
use Rattle.vd_literals.specs.Quoted.{undoubled}
use Rattle.vd_literals.proofs.quoted.undouble_into.Given as goal

abbrev pub invariant-loop-rest : goal.invariant-loop-rest
invariant-loop-rest l = undoubled l.text ≡ l.buffer.items ++ undoubled l.rest

abbrev pub decreases-loop-rest : goal.decreases-loop-rest
decreases-loop-rest l = length l.rest
