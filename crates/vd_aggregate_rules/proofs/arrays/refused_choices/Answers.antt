use Rattle.std.proofs.Common.{ap, ◌∙◌}
use Rattle.vd_walks.specs.Least.{least_of}
use Rattle.vd_value_rules.specs.Judging.{refused_if}
use Rattle.vd_aggregate_rules.proofs.ChoiceLemmas.{refused_of_choices}
use Rattle.vd_aggregate_rules.proofs.arrays.refused_choices.Goals as goal

pub returns : goal.returns
returns c = λ e elements gs are others.
    refused_of_choices e c.args.is_bounded c.args.place elements gs c.args.has_others c.in_ok-gap.gap c.first_not_static-later.result c.in_ok-repeated.repeated
    c.lesser-of_choices.result c.refused_if-missing.result c.refused_if-unbounded.result c.lesser.result c.lesser-2.result others (c.in_ok-gap.ensures gs are)
    (c.first_not_static-later.ensures gs are) (c.in_ok-repeated.ensures gs are) c.lesser-of_choices.ensures
    (c.refused_if-missing.ensures ∙ ap (λ b. least_of (refused_if b c.args.place 403)) c.is_left_out.ensures)
    (c.refused_if-unbounded.ensures ∙ ap (λ b. least_of (refused_if b c.args.place 410)) c.lacks_bounds.ensures) c.lesser.ensures c.lesser-2.ensures
