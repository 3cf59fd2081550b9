use Rattle.std.proofs.Common.{◌≡◌, ◌≤◌, length}
use Rattle.vd_known_designs.specs.Known.{CanGoBack, GoesBack}
use Rattle.vd_known_designs.proofs.table.KnownTable.back_to.Given as goal

abbrev pub invariant-loop-self : goal.invariant-loop-self
invariant-loop-self l = record {
  within : l.mark ≤ length l.initial.self.log.items → l.mark ≤ length l.self.log.items;
  back : CanGoBack l.initial.self.contents l.initial.self.log.items l.mark
      → GoesBack l.initial.self.contents l.self.contents l.initial.self.log.items l.self.log.items;
  marks : l.self.marks.items ≡ l.initial.self.marks.items;
  same : l.self.subtypes ≡ l.initial.self.subtypes;
}

abbrev pub decreases-loop-self : goal.decreases-loop-self
decreases-loop-self l = length l.self.log.items
