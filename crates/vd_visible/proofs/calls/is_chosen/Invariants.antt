use Rattle.std.proofs.Common.{◌≡◌}
use Rattle.std.specs.List.{list_any}
use Rattle.vd_visible.specs.Lists.{is_name, chosen_names}
use Rattle.vd_forest.specs.Forest.{size}
use Rattle.vd_visible.proofs.calls.is_chosen.Given as goal

abbrev pub invariant-loop-first : goal.invariant-loop-first
invariant-loop-first l = list_any (is_name l.name) (chosen_names l.rest) ≡ list_any (is_name l.name) (chosen_names l.fn.trees)

abbrev pub decreases-loop-first : goal.decreases-loop-first
decreases-loop-first l = size l.rest
