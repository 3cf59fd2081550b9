use Rattle.vd_notes.specs.Entries.{entries}
use Rattle.vd_notes.proofs.EntryLemmas.{walked_more}
use Rattle.vd_notes.proofs.entries.declared_in.Goals as goal

pub loop-next-preserved : goal.loop-next-preserved
loop-next-preserved c =
    walked_more c.loop-next.left.items c.pop.new.self.items c.open_next.new.left.items c.loop-next.found.items c.open_next.new.found.items (entries c.args.home c.args.text.now)
    c.in-Some.next c.in-Some.ensures.items c.in_ok-open_next.ensures.found c.loop-next.invariant
