use Rattle.std.proofs.Common.{length, ◌-◌, ◌≡◌, ◌≤◌, drop}
use Rattle.vd_templates.specs.Templates.{behind_heads}
use Rattle.vd_writing.proofs.finding.behind_heads.Given as goal

abbrev pub invariant-loop-at : goal.invariant-loop-at
invariant-loop-at l = (l.at ≤ length l.table) × (behind_heads (drop l.at l.table) ≡ behind_heads (drop l.head l.table))

abbrev pub decreases-loop-at : goal.decreases-loop-at
decreases-loop-at l = length l.table - l.at
