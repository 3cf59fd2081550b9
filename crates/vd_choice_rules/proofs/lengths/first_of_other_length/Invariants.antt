use Rattle.std.proofs.Common.{◌≡◌, drop}
use Rattle.vd_choice_rules.specs.Texts.{other_lengths_in}
use Rattle.vd_walks.specs.Least.{least_of, lesser}
use Rattle.vd_choice_rules.proofs.lengths.first_of_other_length.Given as goal

abbrev pub invariant-loop-choice : goal.invariant-loop-choice
invariant-loop-choice l =
    lesser l.found (least_of (other_lengths_in l.count (drop l.choice-index l.choices))) ≡ least_of (other_lengths_in l.count l.choices)
