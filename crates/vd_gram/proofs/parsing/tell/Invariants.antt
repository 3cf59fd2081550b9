use Rattle.std.proofs.Common.{◌≡◌, ◌-◌, length}
use Rattle.vd_gram.specs.Readings.{IsStanding}
use Rattle.vd_gram.proofs.parsing.tell.Given as goal

abbrev pub invariant-loop-reading : goal.invariant-loop-reading
invariant-loop-reading g l = record {
  kept : g.B.Builder.tables l.builder ≡ g.B.Builder.tables l.fn.builder;
  standing : IsStanding g.B.Builder.HasTaken l.builder l.table.table l.symbols l.deep l.place l.reading;
}

abbrev pub decreases-loop-reading : goal.decreases-loop-reading
decreases-loop-reading g l = length l.symbols - l.place
