use Rattle.std.proofs.Common.{List, drop, map}
use Rattle.vd_bound_rules.proofs.LengthLemmas.{ComesTo}
use Rattle.vd_given_choices.specs.Choices.{AreChoices}
use Rattle.vd_value_rules.specs.Choices.{Given, early_bounds}
use Rattle.vd_bound_rules.proofs.aggregates.length_of_choices.Given as goal

abbrev pub invariant-loop-choice : goal.invariant-loop-choice
invariant-loop-choice l = (gs : List Given) → AreChoices l.choices gs → ComesTo l.length (drop l.choice-index l.choices) (map early_bounds gs)
