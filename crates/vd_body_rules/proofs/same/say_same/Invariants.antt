use Rattle.std.proofs.Common.{◌≡◌}
use Rattle.std.specs.List.{sum_by}
use Rattle.vd_body_rules.proofs.SameLemmas.{all_same}
use Rattle.vd_body_rules.specs.Comparing.{work}
use Rattle.vd_body_rules.proofs.same.say_same.Given as goal
use Rattle.vd_value_rules.specs.Bodies.{say_same}

abbrev pub invariant-loop-both : goal.invariant-loop-both
invariant-loop-both l = all_same l.pairs l.left.items ≡ say_same l.pairs l.f l.g

abbrev pub decreases-loop-both : goal.decreases-loop-both
decreases-loop-both l = sum_by work l.left.items
