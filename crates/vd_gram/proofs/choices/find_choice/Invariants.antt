use Rattle.vd_gram.proofs.ChoiceLemmas.{IsNoneBelow}
use Rattle.vd_gram.proofs.choices.find_choice.Given as goal

abbrev pub invariant-loop-place : goal.invariant-loop-place
invariant-loop-place l = IsNoneBelow l.table l.nonterminal l.ahead l.place
