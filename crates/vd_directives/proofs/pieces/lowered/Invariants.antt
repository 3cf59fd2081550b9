use Rattle.std.proofs.Common.{◌≡◌, take}
use Rattle.vd_trees.specs.Identifiers.{lowered}
use Rattle.vd_directives.proofs.pieces.lowered.Given as goal

abbrev pub invariant-loop-b : goal.invariant-loop-b
invariant-loop-b l = l.bytes.items ≡ lowered (take l.b-index l.text)
