use Rattle.std.proofs.Common.{◌≡◌, ◌++◌, drop}
use Rattle.std.specs.List.{flat_map}
use Rattle.vd_regions.specs.Clauses.{clauses_of}
use Rattle.vd_regions.specs.Found.{given_by}
use Rattle.vd_regions.proofs.regions.Regions.add_given_by_all.Given as goal

abbrev pub invariant-loop-clause : goal.invariant-loop-clause
invariant-loop-clause l = record {
  name : l.key.name.items ≡ l.fn.key.name.items;
  same : l.found.items ++ flat_map (given_by l.self l.fn.key.name.items) (clauses_of (drop l.clause-index l.clauses))
      ≡ l.fn.found.items ++ flat_map (given_by l.self l.fn.key.name.items) (clauses_of l.clauses);
}
