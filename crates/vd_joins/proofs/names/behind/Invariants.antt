use Rattle.std.proofs.Common.{◌≡◌, length}
use Rattle.vd_joins.specs.Behind.{behind}
use Rattle.vd_joins.proofs.names.behind.Given as goal

abbrev pub invariant-loop-byte : goal.invariant-loop-byte
invariant-loop-byte l = behind l.left l.rest ≡ behind l.fn.name l.fn.text

abbrev pub decreases-loop-byte : goal.decreases-loop-byte
decreases-loop-byte l = length l.left
