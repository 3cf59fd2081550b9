use Rattle.std.proofs.Common.{◌≡◌, ◌≤◌, drop, length}
use Rattle.vd_aggregate_rules.specs.Spans.{span_in}
use Rattle.vd_aggregate_rules.proofs.spans.span_of.Given as goal

abbrev pub invariant-loop-left : goal.invariant-loop-left
invariant-loop-left l = record {
  within : l.left ≤ length l.bounds;
  span : l.span ≡ span_in (drop l.left l.bounds);
}

abbrev pub decreases-loop-left : goal.decreases-loop-left
decreases-loop-left l = l.left
