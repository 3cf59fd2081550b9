use Rattle.std.proofs.Common.{◌≡◌, ◌+◌, length}
use Rattle.vd_forms.specs.Validity.{forms_of}
use Rattle.vd_forest.specs.Forest.{size}
use Rattle.vd_visible.proofs.lists.tree_count.Given as goal

abbrev pub invariant-loop-first : goal.invariant-loop-first
invariant-loop-first l = l.count + length (forms_of l.rest) ≡ length (forms_of l.fn.trees)

abbrev pub decreases-loop-first : goal.decreases-loop-first
decreases-loop-first l = size l.rest
