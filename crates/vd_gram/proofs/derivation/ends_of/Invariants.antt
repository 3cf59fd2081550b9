use Rattle.std.proofs.Common.{◌≤◌, length}
use Rattle.vd_gram.specs.Links.{IsLinkedFrom}
use Rattle.vd_gram.proofs.derivation.ends_of.Given as goal

abbrev pub invariant-loop-start : goal.invariant-loop-start
invariant-loop-start l = record {
  within : l.start ≤ length l.steps;
  linked : IsLinkedFrom l.steps l.start l.ends.items;
}

abbrev pub decreases-loop-start : goal.decreases-loop-start
decreases-loop-start l = l.start
