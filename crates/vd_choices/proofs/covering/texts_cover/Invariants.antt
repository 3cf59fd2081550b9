use Rattle.vd_choices.proofs.TextLemmas.{IsSeen}
use Rattle.vd_choices.proofs.covering.texts_cover.Given as goal

abbrev pub invariant-loop-choice : goal.invariant-loop-choice
invariant-loop-choice l = IsSeen l.seen.keys l.choices l.choice-index
