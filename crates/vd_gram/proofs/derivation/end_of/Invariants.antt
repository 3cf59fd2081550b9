use Rattle.vd_gram.specs.Links.{IsSpan}
use Rattle.vd_gram.proofs.derivation.end_of.Given as goal

abbrev pub invariant-loop : goal.invariant-loop
invariant-loop l = IsSpan l.steps l.start l.counter l.end
