use Rattle.std.proofs.Common.{◌+◌}
use Rattle.std.specs.List.{sum_by}
use Rattle.vd_forest.specs.Store.{Extends}
use Rattle.vd_readings.specs.Search.{asked_readings, waiting_cost, step_cost, AreKnown}
use Rattle.vd_readings.proofs.SearchLemmas.{IsGoing}
use Rattle.vd_readings.proofs.search.Search.find.Given as goal

abbrev pub invariant-loop-step : goal.invariant-loop-step
invariant-loop-step g l = record {
  known : AreKnown (g.L.Language.rules l.self.language.now) l.self.store.now l.known.out l.known.memo.entries;
  extends : Extends l.fn.known.out l.known.out;
  going : IsGoing (g.L.Language.rules l.self.language.now) l.self.store.now l.known.out l.waiting.items l.step
      (asked_readings (g.L.Language.rules l.self.language.now) l.self.store.now l.fn.asked);
}

abbrev pub decreases-loop-step : goal.decreases-loop-step
decreases-loop-step g l =
    step_cost (g.L.Language.rules l.self.language.now) l.self.store.now l.step
    + sum_by (waiting_cost (g.L.Language.rules l.self.language.now) l.self.store.now) l.waiting.items
