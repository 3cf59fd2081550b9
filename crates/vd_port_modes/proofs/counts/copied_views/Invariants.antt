use Rattle.std.proofs.Common.{◌≡◌, ◌+◌, ◌≤◌, drop}
use Rattle.vd_port_modes.specs.Counts.{copied_count}
use Rattle.vd_port_modes.proofs.counts.copied_views.Given as goal

abbrev pub invariant-loop-view : goal.invariant-loop-view
invariant-loop-view l =
    (l.count ≤ l.view-index) × (l.count + copied_count l.copies (drop l.view-index l.views) ≡ copied_count l.copies l.views)
