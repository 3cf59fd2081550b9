use Rattle.std.proofs.Common.{◌≡◌, ◌++◌, drop}
use Rattle.vd_regions.specs.Found.{given_among}
use Rattle.vd_regions.proofs.regions.Regions.add_given_among.Given as goal

abbrev pub invariant-loop-from : goal.invariant-loop-from
invariant-loop-from l = record {
  name : l.key.name.items ≡ l.fn.key.name.items;
  same : l.found.items ++ given_among l.self l.fn.key.name.items l.regions (drop l.from-index l.froms)
      ≡ l.fn.found.items ++ given_among l.self l.fn.key.name.items l.regions l.froms;
}
