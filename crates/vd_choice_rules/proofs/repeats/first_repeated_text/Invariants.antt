use Rattle.std.proofs.Common.{◌≡◌, [], drop, take}
use Rattle.vd_choice_rules.specs.Texts.{HasTexts, text_in}
use Rattle.vd_given_choices.specs.Refusals.{repeated_known, those_known}
use Rattle.vd_walks.specs.Least.{least_of, lesser}
use Rattle.vd_value_rules.specs.Choices.{same_text}
use Rattle.vd_choice_rules.proofs.repeats.first_repeated_text.Given as goal

abbrev pub invariant-loop-choice : goal.invariant-loop-choice
invariant-loop-choice l = record {
  seen : HasTexts l.seen.keys (those_known (text_in l.count) (take l.choice-index l.choices));
  found : lesser l.found (least_of (repeated_known same_text (text_in l.count) (those_known (text_in l.count) (take l.choice-index l.choices)) (drop l.choice-index l.choices)))
      ≡ least_of (repeated_known same_text (text_in l.count) [] l.choices);
}
