use Rattle.std.proofs.Common.{◌≡◌, drop}
use Rattle.vd_first_grammar.specs.Reader.{with_texts}
use Rattle.vd_first_grammar.proofs.reader_known.add_all.Given as goal

abbrev pub invariant-loop-text : goal.invariant-loop-text
invariant-loop-text l = with_texts l.names (drop l.text-index l.texts) ≡ with_texts l.initial.names l.texts
