use Rattle.std.proofs.Common.{take}
use Rattle.vd_given_choices.specs.Texts.{AreCounted}
use Rattle.vd_choice_rules.specs.Texts.{text_in}
use Rattle.vd_choices.specs.Texts.{texts_of}
use Rattle.vd_given_choices.specs.Refusals.{those_known}
use Rattle.vd_choice_rules.proofs.covering.known_texts.Given as goal

abbrev pub invariant-loop-choice : goal.invariant-loop-choice
invariant-loop-choice l = AreCounted (texts_of l.texts.items) (those_known (text_in l.count) (take l.choice-index l.choices))
