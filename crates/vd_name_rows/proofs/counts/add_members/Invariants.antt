use Rattle.std.proofs.Common.{◌≤◌, ◌-◌}
use Rattle.vd_name_rows.specs.Counts.{AreMembers}
use Rattle.vd_name_rows.proofs.counts.add_members.Given as goal

abbrev pub invariant-loop-next : goal.invariant-loop-next
invariant-loop-next l = record {
  within : l.next ≤ l.to;
  members : AreMembers l.regions l.next l.members;
}

abbrev pub decreases-loop-next : goal.decreases-loop-next
decreases-loop-next l = l.to - l.next
