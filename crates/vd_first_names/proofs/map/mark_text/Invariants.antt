use Rattle.std.proofs.Common.{◌≡◌}
use Rattle.vd_forest.specs.Forest.{size}
use Rattle.vd_first_names.specs.Maps.{text_or, mark_of}
use Rattle.vd_first_names.proofs.map.mark_text.Given as goal

abbrev pub invariant-loop-first : goal.invariant-loop-first
invariant-loop-first l = text_or l.text l.left ≡ mark_of l.fn.declaration

abbrev pub decreases-loop-first : goal.decreases-loop-first
decreases-loop-first l = size l.left
