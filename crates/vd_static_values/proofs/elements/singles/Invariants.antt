use Rattle.std.proofs.Common.{drop, ◌++◌, ◌≡◌}
use Rattle.vd_static_values.specs.Levels.{AreSized, elements_of}
use Rattle.vd_static_values.proofs.elements.singles.Given as goal

abbrev pub invariant-loop-array : goal.invariant-loop-array
invariant-loop-array l = record {
  left : AreSized (drop l.array-index l.arrays);
  same : l.made.items ++ elements_of (drop l.array-index l.arrays) ≡ elements_of l.arrays;
}
