use Rattle.std.proofs.Common.{drop, ◌++◌, ◌≡◌}
use Rattle.vd_static_values.specs.Levels.{AreSized, elements_of}
use Rattle.vd_static_values.proofs.elements.all_counted.Given as goal

abbrev pub invariant-loop-array : goal.invariant-loop-array
invariant-loop-array l = record {
  own : AreSized (drop l.array-index l.arrays) → AreSized l.arrays;
  sized : AreSized l.made.items;
  same : elements_of l.made.items ++ elements_of (drop l.array-index l.arrays) ≡ elements_of l.arrays;
}
