use Rattle.std.proofs.Common.{◌≡◌, [], drop}
use Rattle.vd_lex.proofs.TableLemmas.{filled, texts}
use Rattle.vd_lex.proofs.tables.set_of.Given as goal

-- with the words that are left put in, the set is what it is to become
abbrev pub invariant-loop-word : goal.invariant-loop-word
invariant-loop-word l = filled (texts l.set.keys) (drop l.word-index (texts l.words)) ≡ filled [] (texts l.words)
