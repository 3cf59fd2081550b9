use Rattle.std.proofs.Common.{take}
use Rattle.vd_given_choices.specs.Texts.{IsCounted}
use Rattle.vd_choice_rules.proofs.covering.counted_text.Given as goal

abbrev pub invariant-loop-position : goal.invariant-loop-position
invariant-loop-position l = IsCounted l.numbers.items (take l.position-index l.positions)
