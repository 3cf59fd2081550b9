use Rattle.std.proofs.Common.{ap, subst, sym, take, ◌+◌, ◌++◌, ◌∙◌}
use Rattle.std.proofs.lemmas.List.{drop_all}
use Rattle.vd_choice_rules.proofs.SeenLemmas.{those_more}
use Rattle.vd_choice_rules.specs.Texts.{HasTexts, text_in}
use Rattle.vd_given_choices.proofs.RefusalLemmas.{repeated_more}
use Rattle.vd_given_choices.specs.Refusals.{listed, repeated_known, repeats_known, those_known}
use Rattle.vd_walks.proofs.OrderLaws.{lesser_right}
use Rattle.vd_walks.specs.Least.{least_of, lesser}
use Rattle.vd_value_rules.specs.Choices.{same_text}
use Rattle.vd_choice_rules.proofs.repeats.first_repeated_text.Goals as goal

pub loop-choice-preserved : goal.loop-choice-preserved
loop-choice-preserved c =
    let xs = c.args.choices.now in
    let j = c.loop-choice.choice-index in
    let x = c.choice-item.result in
    let of = text_in c.args.count in
    let known = those_known of (take j xs) in
    let more = those_more of xs j x c.loop-choice-test.true c.choice-item.is in
    record {
      seen = subst (λ l. HasTexts c.repeats.new.seen.keys l) (ap (λ o. known ++ listed o) c.in_ok-text.ensures ∙ sym more)
          (c.in_ok-was_there.ensures.seen known c.loop-choice.invariant.seen);
      found = repeated_more xs j c.loop-choice.found same_text of known (those_known of (take (j + 1) xs)) x c.in_ok-was_there.was_there
          c.refused_if-refused.result c.lesser-found.result _ c.loop-choice-test.true c.choice-item.is
          (c.in_ok-was_there.ensures.answer known c.loop-choice.invariant.seen ∙ ap (repeats_known same_text known) c.in_ok-text.ensures)
          c.refused_if-refused.ensures c.lesser-found.ensures more c.loop-choice.invariant.found;
    }

pub returns : goal.returns
returns c =
    let xs = c.args.choices.now in
    let j = c.loop-choice.choice-index in
    let of = text_in c.args.count in
    sym (lesser_right c.loop-choice.found)
    ∙ ap (λ l. lesser c.loop-choice.found (least_of (repeated_known same_text of (those_known of (take j xs)) l))) (sym (drop_all j xs c.loop-choice-test.false))
    ∙ c.loop-choice.invariant.found
