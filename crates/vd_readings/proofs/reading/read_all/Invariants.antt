use Rattle.std.proofs.Common.{take}
use Rattle.vd_readings.specs.Found.{IsFound}
use Rattle.vd_readings.specs.Readings.{readings_in}
use Rattle.vd_readings.specs.Search.{AreKnown}
use Rattle.vd_readings.proofs.reading.read_all.Given as goal

abbrev pub invariant-loop-state : goal.invariant-loop-state
invariant-loop-state g l = record {
  known : AreKnown (g.L.Language.rules l.search.language.now) l.search.store.now l.known.out l.known.memo.entries;
  found : IsFound l.known.out l.found (readings_in (g.L.Language.rules l.search.language.now) l.tree (take l.state-index l.states));
}
