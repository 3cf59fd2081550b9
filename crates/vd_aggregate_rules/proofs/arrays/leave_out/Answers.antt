use Rattle.std.proofs.Common.{ap, false, sym, ◌∙◌}
use Rattle.vd_aggregate_rules.proofs.ChoiceLemmas.{gap_left, not_all_known}
use Rattle.vd_composites.specs.Aggregates.{chosen_bounds}
use Rattle.vd_aggregate_rules.proofs.arrays.leave_out.Goals as goal

pub returns-then-not-are_all_known : goal.returns-then-not-are_all_known
returns-then-not-are_all_known c = λ gs are.
    not_all_known c.args.choices.now gs are c.are_all_known.result c.are_all_known.ensures c.if-not-are_all_known.true

pub returns : goal.returns
returns c = λ gs are.
    gap_left c.args.choices.now gs are c.are_all_known.result c.in_ok-covered.covered c.in_ok-bounds.bounds.items c.deref-2.result.now c.chosen_bounds.result
    c.are_all_known.ensures c.if-not-are_all_known.false c.in_ok-bounds.ensures c.deref-2.ensures.value
    (c.chosen_bounds.ensures ∙ ap (λ bs. chosen_bounds false bs) (c.deref.ensures.value ∙ sym c.deref-2.ensures.value)) c.in_ok-covered.ensures
