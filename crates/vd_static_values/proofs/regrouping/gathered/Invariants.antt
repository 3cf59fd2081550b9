use Rattle.std.proofs.Common.{drop, ◌≡◌}
use Rattle.vd_composites.specs.Composites.{items_of, joined}
use Rattle.vd_static_values.proofs.regrouping.gathered.Given as goal

abbrev pub invariant-loop-value : goal.invariant-loop-value
invariant-loop-value l = joined l.items (items_of (drop l.value-index l.values)) ≡ items_of l.values
