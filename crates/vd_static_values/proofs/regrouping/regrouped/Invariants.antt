use Rattle.std.proofs.Common.{drop, ◌++◌, ◌≡◌}
use Rattle.vd_static_values.specs.Levels.{regrouped}
use Rattle.vd_static_values.proofs.regrouping.regrouped.Given as goal

abbrev pub invariant-loop-array : goal.invariant-loop-array
invariant-loop-array l = l.made.items ++ regrouped (drop l.array-index l.arrays) l.left ≡ regrouped l.arrays l.elements
