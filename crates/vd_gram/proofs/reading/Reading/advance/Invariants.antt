use Rattle.std.proofs.Common.{◌≡◌}
use Rattle.vd_gram.specs.Pending.{symbols_of}
use Rattle.vd_gram.specs.Readings.{IsLooking}
use Rattle.vd_gram.proofs.WeightLemmas.{weight}
use Rattle.vd_gram.proofs.reading.Reading.advance.Given as goal

abbrev pub invariant-loop-next : goal.invariant-loop-next
invariant-loop-next g l = record {
  kept : g.B.Builder.tables l.builder ≡ g.B.Builder.tables l.fn.builder;
  looking : IsLooking g.B.Builder.HasTaken l.builder l.checked.table l.symbols l.deep l.place l.self.stack l.self;
}

abbrev pub decreases-loop-next : goal.decreases-loop-next
decreases-loop-next g l = weight l.checked.table (symbols_of l.self.stack)
