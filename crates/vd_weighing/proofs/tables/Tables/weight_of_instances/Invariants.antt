use Rattle.std.proofs.Common.{◌≤◌, take, reverse, vec_len}
use Rattle.vd_weighing.specs.Tables.{sums_found}
use Rattle.vd_weighing.proofs.LimitLemmas.{IsCounted}
use Rattle.vd_weighing.proofs.tables.Tables.weight_of_instances.Given as goal

abbrev pub invariant-loop-left : goal.invariant-loop-left
invariant-loop-left l = record {
  within : l.left ≤ vec_len l.self-inside.packages;
  so_far : IsCounted l.weight (sums_found (reverse (take l.left l.self-inside.packages.items)) l.self.generics) (sums_found l.self.instances l.self.generics);
}

abbrev pub decreases-loop-left : goal.decreases-loop-left
decreases-loop-left l = l.left
