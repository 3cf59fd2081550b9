use Rattle.vd_choices.proofs.TextLemmas.{IsNew}
use Rattle.vd_choices.proofs.texts.first_repeated_text.Given as goal

abbrev pub invariant-loop-k : goal.invariant-loop-k
invariant-loop-k l = IsNew l.seen.keys l.choices l.k
