use Rattle.std.proofs.Common.{◌≡◌}
use Rattle.std.specs.List.{list_any}
use Rattle.vd_forms.specs.Validity.{forms_of}
use Rattle.vd_visible.specs.Lists.{is_others}
use Rattle.vd_forest.specs.Forest.{size}
use Rattle.vd_visible.proofs.lists.has_others.Given as goal

abbrev pub invariant-loop-first : goal.invariant-loop-first
invariant-loop-first l = list_any is_others (forms_of l.rest) ≡ list_any is_others (forms_of l.fn.trees)

abbrev pub decreases-loop-first : goal.decreases-loop-first
decreases-loop-first l = size l.rest
