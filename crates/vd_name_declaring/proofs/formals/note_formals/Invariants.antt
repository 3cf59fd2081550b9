use Rattle.std.proofs.Common.{◌≡◌}
use Rattle.vd_forest.specs.Forest.{size}
use Rattle.vd_name_rows.specs.Entering.{words_of}
use Rattle.vd_naming.specs.Endings.{with_formals}
use Rattle.vd_name_declaring.proofs.formals.note_formals.Given as goal

abbrev pub invariant-loop-name : goal.invariant-loop-name
invariant-loop-name l = with_formals l.formal l.next (words_of l.left) l.names ≡ with_formals l.fn.formal l.fn.number (words_of l.fn.list) l.fn.names

abbrev pub decreases-loop-name : goal.decreases-loop-name
decreases-loop-name l = size l.left
