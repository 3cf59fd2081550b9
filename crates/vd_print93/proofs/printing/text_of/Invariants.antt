use Rattle.std.proofs.Common.{◌≡◌, ◌++◌, length}
use Rattle.vd_print93.specs.Layout.{bytes_from, layout_of}
use Rattle.vd_print93.proofs.printing.text_of.Given as goal

abbrev pub invariant-loop-out : goal.invariant-loop-out
invariant-loop-out l = l.out.items ++ bytes_from l.layout l.items ≡ layout_of l.fn.trees

abbrev pub decreases-loop-out : goal.decreases-loop-out
decreases-loop-out l = length l.items
