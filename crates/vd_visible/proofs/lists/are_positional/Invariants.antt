use Rattle.std.proofs.Common.{◌≡◌, ◌||◌}
use Rattle.std.specs.List.{list_all}
use Rattle.vd_forms.specs.Validity.{forms_of}
use Rattle.vd_forms.specs.Forms.{is_among, expressions}
use Rattle.vd_visible.specs.Lists.{is_others}
use Rattle.vd_forest.specs.Forest.{size}
use Rattle.vd_visible.proofs.lists.are_positional.Given as goal

abbrev pub invariant-loop-first : goal.invariant-loop-first
invariant-loop-first l = list_all (λ form. is_among expressions form || is_others form) (forms_of l.rest) ≡ list_all (λ form. is_among expressions form || is_others form) (forms_of l.fn.trees)

abbrev pub decreases-loop-first : goal.decreases-loop-first
decreases-loop-first l = size l.rest
