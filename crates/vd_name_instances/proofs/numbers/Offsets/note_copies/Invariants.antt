use Rattle.std.proofs.Common.{◌≡◌, ◌-◌}
use Rattle.vd_name_instances.specs.Noted.{with_notes}
use Rattle.vd_name_instances.proofs.numbers.Offsets.note_copies.Given as goal

abbrev pub invariant-loop-next : goal.invariant-loop-next
invariant-loop-next l =
    with_notes l.self l.stand_ins.actuals l.next (l.self.span.end - l.next) l.names
    ≡ with_notes l.self l.stand_ins.actuals l.self.span.first (l.self.span.end - l.self.span.first) l.fn.names

abbrev pub decreases-loop-next : goal.decreases-loop-next
decreases-loop-next l = l.self.span.end - l.next
