use Rattle.std.proofs.Common.{◌≡◌, List}
use Rattle.vd_declarations.specs.declared.declarations.Declaration.{Declaration}
use Rattle.vd_forest.specs.Forest.{size}
use Rattle.vd_weighing.specs.Weights.{in_front_of_choices}
use Rattle.vd_weighing.specs.Limits.{at_most}
use Rattle.vd_weighing.proofs.LimitLemmas.{IsCounted}
use Rattle.vd_weighing.proofs.generates.in_front_of_choices.Given as goal

abbrev pub invariant-loop-alternative : goal.invariant-loop-alternative
invariant-loop-alternative l = record {
  fits : at_most l.before ≡ l.before;
  so_far : (ds : List Declaration) → IsCounted l.weight (in_front_of_choices ds l.selector l.before l.left) (in_front_of_choices ds l.selector 0 l.alternatives);
}

abbrev pub decreases-loop-alternative : goal.decreases-loop-alternative
decreases-loop-alternative l = size l.left
