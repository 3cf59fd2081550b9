use Rattle.std.proofs.Common.{◌≡◌, take}
use Rattle.vd_static_nodes.specs.Choices.{named_among}
use Rattle.vd_static_nodes.proofs.choices.choices_named.Given as goal

abbrev pub invariant-loop-choice : goal.invariant-loop-choice
invariant-loop-choice l = l.named.items ≡ named_among (take l.choice-index l.choices)
