use Rattle.std.proofs.Common.{◌≡◌, ◌++◌, drop}
use Rattle.vd_literals.specs.Bits.{elements}
use Rattle.vd_literals.proofs.bits.expand_into.Given as goal

-- with the elements of the characters that are left, those that are due
abbrev pub invariant-loop-b : goal.invariant-loop-b
invariant-loop-b l = elements l.width l.chars ≡ l.buffer.items ++ elements l.width (drop l.b-index l.chars)
