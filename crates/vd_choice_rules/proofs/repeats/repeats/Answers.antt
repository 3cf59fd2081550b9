use Rattle.std.proofs.Common.{ap, subst, sym, ◌++◌, ◌∙◌}
use Rattle.vd_choice_rules.proofs.SeenLemmas.{none_more, now_there, was_there}
use Rattle.vd_choice_rules.specs.Texts.{HasTexts, items_where}
use Rattle.vd_given_choices.specs.Refusals.{listed, repeats_known}
use Rattle.vd_value_rules.specs.Choices.{same_text}
use Rattle.vd_choice_rules.proofs.repeats.repeats.Goals as goal

pub returns-in_ok-is_new-in-Some-clause-answer : goal.returns-in_ok-is_new-in-Some-clause-answer
returns-in_ok-is_new-in-Some-clause-answer c = λ known has.
    was_there c.args.seen.now.keys known c.in-Some.text has c.in_ok-is_new-in-Some.is_new c.in_ok-is_new-in-Some.ensures.added
    ∙ sym (ap (λ o. repeats_known same_text known (items_where o)) c.in-Some.is)

pub returns-in_ok-is_new-in-Some-clause-seen : goal.returns-in_ok-is_new-in-Some-clause-seen
returns-in_ok-is_new-in-Some-clause-seen c = λ known has.
    subst (λ o. HasTexts c.insert.new.self.keys (known ++ listed (items_where o))) (sym c.in-Some.is)
    (now_there c.args.seen.now.keys known c.in-Some.text has c.insert.new.self.keys c.in_ok-is_new-in-Some.ensures.keys)

pub returns-in-None-clause-answer : goal.returns-in-None-clause-answer
returns-in-None-clause-answer c = λ known has. sym (ap (λ o. repeats_known same_text known (items_where o)) c.in-None.is)

pub returns-in-None-clause-seen : goal.returns-in-None-clause-seen
returns-in-None-clause-seen c = λ known has.
    subst (λ o. HasTexts c.args.seen.now.keys (known ++ listed (items_where o))) (sym c.in-None.is) (none_more c.args.seen.now.keys known has)
