use Rattle.std.proofs.Common.{◌≡◌, drop}
use Rattle.vd_composites.specs.Aggregates.{bounds_with_others}
use Rattle.vd_subtypes.proofs.positional.bounds_with_others.Given as goal

abbrev pub invariant-loop-choice : goal.invariant-loop-choice
invariant-loop-choice l = bounds_with_others l.known (drop l.choice-index l.choices) ≡ bounds_with_others l.known l.choices
