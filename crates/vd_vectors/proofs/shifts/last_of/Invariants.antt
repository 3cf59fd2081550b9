use Rattle.std.proofs.Common.{◌≡◌, drop}
use Rattle.vd_values.specs.declared.logic.Logic.TheVariants.{Zero}
use Rattle.vd_vectors.specs.Shifts.{rightmost}
use Rattle.vd_vectors.proofs.shifts.last_of.Given as goal

abbrev pub invariant-loop-value : goal.invariant-loop-value
invariant-loop-value l = rightmost l.last (drop l.value-index l.values) ≡ rightmost Zero l.values
