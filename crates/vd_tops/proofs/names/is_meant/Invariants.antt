use Rattle.std.proofs.Common.{◌≡◌, drop, bytes_eq}
use Rattle.vd_trees.specs.Identifiers.{lowered}
use Rattle.vd_tops.proofs.names.is_meant.Given as goal

abbrev pub invariant-loop-i : goal.invariant-loop-i
invariant-loop-i l = bytes_eq (drop l.i l.name) (lowered (drop l.i l.written)) ≡ bytes_eq l.name (lowered l.written)
