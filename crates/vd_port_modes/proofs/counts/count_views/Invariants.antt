use Rattle.std.proofs.Common.{◌≡◌, ◌+◌, drop, length}
use Rattle.vd_port_modes.specs.Counts.{all_copied, view_count}
use Rattle.vd_port_modes.proofs.counts.count_views.Given as goal

abbrev pub invariant-loop-of_instance : goal.invariant-loop-of_instance
invariant-loop-of_instance l = l.count + length (all_copied l.views (drop l.of_instance-index l.copies)) ≡ view_count l.views l.copies
