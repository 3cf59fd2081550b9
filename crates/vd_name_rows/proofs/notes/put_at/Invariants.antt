use Rattle.std.proofs.Common.{◌≡◌, ◌+◌, ◌-◌, length}
use Rattle.vd_name_rows.specs.Designs.{put_note}
use Rattle.vd_name_rows.proofs.notes.put_at.Given as goal

abbrev pub invariant-loop-notes : goal.invariant-loop-notes
invariant-loop-notes l = put_note l.fn.number l.fn.note l.notes.items ≡ put_note l.fn.number l.fn.note l.fn.notes.items

abbrev pub decreases-loop-notes : goal.decreases-loop-notes
decreases-loop-notes l = (l.place + 1) - length l.notes.items
