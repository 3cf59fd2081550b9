use Rattle.std.proofs.Common.{◌≡◌, ◌<◌, drop, length}
use Rattle.vd_regions.specs.Scopes.{region_at, with_clauses}
use Rattle.vd_regions.specs.Clauses.{clauses_of}
use Rattle.vd_regions.proofs.regions.Regions.repeat_uses.Given as goal

abbrev pub invariant-loop-clause : goal.invariant-loop-clause
invariant-loop-clause l = record {
  within : l.region < length l.self.regions;
  same : with_clauses l.region (clauses_of (drop l.clause-index l.clause-items)) l.self ≡ with_clauses l.region (region_at l.fn.self l.fn.from).uses l.fn.self;
}
