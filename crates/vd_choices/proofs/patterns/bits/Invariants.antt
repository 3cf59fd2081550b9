use Rattle.std.proofs.Common.{◌≡◌, take}
use Rattle.vd_choices.specs.Bits.{bits_of}
use Rattle.vd_choices.proofs.patterns.bits.Given as goal

abbrev pub invariant-loop-element : goal.invariant-loop-element
invariant-loop-element l = l.bits.items ≡ bits_of (take l.element-index l.elements)
