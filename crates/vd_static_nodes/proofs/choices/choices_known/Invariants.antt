use Rattle.std.proofs.Common.{◌≡◌, drop}
use Rattle.vd_environments.specs.Environments.{both}
use Rattle.vd_value_rules.specs.Indicated.{static_of}
use Rattle.vd_static_nodes.specs.Choices.{known_among}
use Rattle.vd_static_nodes.proofs.choices.choices_known.Given as goal

abbrev pub invariant-loop-choice : goal.invariant-loop-choice
invariant-loop-choice l = both (static_of l.known) (known_among (drop l.choice-index l.choices)) ≡ known_among l.choices
