use Rattle.std.proofs.Common.{ap, subst, sym, take, ◌++◌, ◌∙◌}
use Rattle.vd_given_choices.specs.Texts.{AreCounted}
use Rattle.vd_choice_rules.proofs.SeenLemmas.{those_more}
use Rattle.vd_choice_rules.specs.Texts.{text_in}
use Rattle.vd_choices.specs.Texts.{texts_of}
use Rattle.vd_given_choices.specs.Refusals.{listed, those_known}
use Rattle.vd_choice_rules.proofs.covering.known_texts.Goals as goal

pub loop-choice-preserved : goal.loop-choice-preserved
loop-choice-preserved c =
    let xs = c.args.choices.now in
    let j = c.loop-choice.choice-index in
    let of = text_in c.args.count in
    let known = those_known of (take j xs) in
    subst (AreCounted (texts_of c.add_text.new.texts.items))
    (ap (λ o. known ++ listed o) c.in_ok-text.ensures ∙ sym (those_more of xs j c.choice-item.result c.loop-choice-test.true c.choice-item.is))
    (c.in_ok-add_text.ensures known c.loop-choice.invariant)
