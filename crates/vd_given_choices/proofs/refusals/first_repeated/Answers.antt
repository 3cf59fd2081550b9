use Rattle.std.proofs.Common.{ap, ap₂, ◌∙◌, ◌++◌}
use Rattle.vd_given_choices.proofs.RefusalLemmas.{bounds_found, repeated_end, repeated_more}
use Rattle.vd_given_choices.specs.Refusals.{bounds_in, listed, repeats_known}
use Rattle.vd_value_rules.specs.Choices.{early_bounds, share}
use Rattle.vd_given_choices.proofs.refusals.first_repeated.Goals as goal

pub loop-choice-preserved : goal.loop-choice-preserved
loop-choice-preserved c =
    let known = c.loop-choice.before.items in
    repeated_more c.args.choices.now c.loop-choice.choice-index c.loop-choice.found share bounds_in known c.add_known.new.known.items c.choice-item.result
    c.repeats.result c.refused_if-refused.result c.lesser-found.result _ c.loop-choice-test.true c.choice-item.is
    (c.repeats.ensures ∙ ap₂ (λ l o. repeats_known share l o) c.deref.ensures.value c.bounds-bounds.ensures)
    c.refused_if-refused.ensures c.lesser-found.ensures (c.in_ok-add_known.ensures ∙ ap (λ o. known ++ listed o) c.bounds-bounds.ensures) c.loop-choice.invariant

pub returns : goal.returns
returns c = λ gs are.
    repeated_end c.args.choices.now c.loop-choice.choice-index c.loop-choice.found share bounds_in early_bounds c.loop-choice.before.items gs bounds_found
    c.loop-choice-test.false c.loop-choice.invariant are
