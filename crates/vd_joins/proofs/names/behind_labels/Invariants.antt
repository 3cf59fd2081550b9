use Rattle.std.proofs.Common.{◌≡◌, length}
use Rattle.vd_joins.specs.Behind.{behind_labels}
use Rattle.vd_joins.proofs.names.behind_labels.Given as goal

abbrev pub invariant-loop-label : goal.invariant-loop-label
invariant-loop-label l = behind_labels l.left l.rest ≡ behind_labels l.fn.labels l.fn.text

abbrev pub decreases-loop-label : goal.decreases-loop-label
decreases-loop-label l = length l.left
