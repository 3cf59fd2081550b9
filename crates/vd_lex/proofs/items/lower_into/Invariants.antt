use Rattle.std.proofs.Common.{◌≡◌, take}
use Rattle.vd_trees.specs.Identifiers.{lowered}
use Rattle.vd_lex.proofs.items.lower_into.Given as goal

abbrev pub invariant-loop-b : goal.invariant-loop-b
invariant-loop-b l = l.buffer.items ≡ lowered (take l.b-index l.text)
