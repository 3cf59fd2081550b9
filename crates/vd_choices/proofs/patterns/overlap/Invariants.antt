use Rattle.std.proofs.Common.{◌≡◌, drop}
use Rattle.vd_values.specs.declared.logic.Logic.TheVariants.{One}
use Rattle.vd_choices.specs.Patterns.{match_all}
use Rattle.vd_choices.proofs.patterns.overlap.Given as goal

abbrev pub invariant-loop-i : goal.invariant-loop-i
invariant-loop-i l = match_all l.value (drop l.i l.left) (drop l.i l.right) ≡ match_all One l.left l.right
