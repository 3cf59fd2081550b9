use Rattle.std.proofs.Common.{◌≡◌, take, map}
use Rattle.vd_words.specs.Words.{texts_of}
use Rattle.vd_words.proofs.plan.copied.Given as goal

abbrev pub invariant-loop-word : goal.invariant-loop-word
invariant-loop-word l = texts_of l.names.items ≡ map (λ word. word.now) (take l.word-index l.words)
