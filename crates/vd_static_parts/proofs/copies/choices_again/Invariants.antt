use Rattle.std.proofs.Common.{◌≡◌, take}
use Rattle.vd_static_parts.proofs.copies.choices_again.Given as goal

abbrev pub invariant-loop-choice : goal.invariant-loop-choice
invariant-loop-choice l = l.made.items ≡ take l.choice-index l.choices
