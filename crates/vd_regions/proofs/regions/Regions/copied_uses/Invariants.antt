use Rattle.std.proofs.Common.{◌≡◌, ◌++◌, drop}
use Rattle.vd_regions.specs.Scopes.{region_at}
use Rattle.vd_regions.specs.Clauses.{clauses_of}
use Rattle.vd_regions.proofs.regions.Regions.copied_uses.Given as goal

abbrev pub invariant-loop-clause : goal.invariant-loop-clause
invariant-loop-clause l = clauses_of l.found.items ++ clauses_of (drop l.clause-index l.clause-items) ≡ (region_at l.fn.self l.fn.region).uses
