use Rattle.std.proofs.Common.{◌≡◌, take}
use Rattle.vd_static_parts.proofs.KnownLemmas.{values_in}
use Rattle.vd_static_parts.proofs.parts.operands.Given as goal

abbrev pub invariant-loop-part : goal.invariant-loop-part
invariant-loop-part l = l.values.items ≡ values_in (take l.part-index l.parts)
