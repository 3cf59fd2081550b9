use Rattle.std.proofs.Common.{◌≡◌, length, get_or, refl, ap, ◌∙◌, arith}
use Rattle.vd_choices.specs.declared.texts.Text.{Text}
use Rattle.vd_choices.proofs.TextLemmas.{seen_more, covered_either, none_within}
use Rattle.vd_choices.proofs.covering.texts_cover.Goals as goal

pub returns-then-within : goal.returns-then-within
returns-then-within c = ((λ t text long w. absurd (none_within c.args.within text (omega (arith, long, c.if-length-gt0.true)) c.if-within.true w)), λ h. refl)

pub loop-choice-preserved : goal.loop-choice-preserved
loop-choice-preserved c =
    let is : c.as_slice.result.now ≡ (get_or c.args.choices.now c.loop-choice.choice-index c.choice-item.result).positions.items = c.as_slice.ensures.value ∙ ap (λ (t : Text). t.positions.items) c.choice-item.is in
    seen_more c.loop-choice.seen.keys c.as_slice.result c.args.choices.now c.loop-choice.choice-index c.choice-item.result c.loop-choice-test.true is c.loop-choice.invariant c.insert.new.self.keys c.in_ok-insert.ensures.keys

pub returns : goal.returns
returns c =
    let long : length c.deref_mut.result.now ≡ c.args.length = c.deref_mut.ensures.len ∙ c.in_ok-first.ensures.len in
    covered_either c.args.within c.args.length c.args.choices.now c.loop-choice.seen.keys c.loop-choice.choice-index (length c.deref_mut.result.now) c.loop-choice-test.false c.loop-choice.invariant long c.are_all_seen.ensures
