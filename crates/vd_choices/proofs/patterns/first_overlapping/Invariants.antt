use Rattle.vd_choices.specs.Bits.{keys_of}
use Rattle.vd_choices.proofs.PatternLemmas.{IsLooked}
use Rattle.vd_choices.proofs.patterns.first_overlapping.Given as goal

abbrev pub invariant-loop-k : goal.invariant-loop-k
invariant-loop-k l = IsLooked (keys_of l.seen.keys) l.dashed.items l.choices l.k
