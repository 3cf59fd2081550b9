use Rattle.std.proofs.Common.{◌≡◌, List}
use Rattle.vd_declarations.specs.declared.declarations.Declaration.{Declaration}
use Rattle.vd_forest.specs.Forest.{size}
use Rattle.vd_weighing.specs.Weights.{conditions, in_front_of_branches}
use Rattle.vd_weighing.specs.Limits.{at_most}
use Rattle.vd_weighing.proofs.LimitLemmas.{IsCounted}
use Rattle.vd_weighing.proofs.generates.in_front_of_branches.Given as goal

abbrev pub invariant-loop-branch : goal.invariant-loop-branch
invariant-loop-branch l = record {
  fits : at_most l.before ≡ l.before;
  so_far : (ds : List Declaration)
      → IsCounted l.weight (in_front_of_branches ds l.before (conditions ds l.left) l.has_else) (in_front_of_branches ds l.first (conditions ds l.branches) l.has_else);
}

abbrev pub decreases-loop-branch : goal.decreases-loop-branch
decreases-loop-branch l = size l.left
