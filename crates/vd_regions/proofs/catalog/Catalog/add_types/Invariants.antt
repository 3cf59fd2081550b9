use Rattle.std.proofs.Common.{◌≡◌, ◌++◌, drop, map}
use Rattle.vd_regions.specs.Indexes.{type_among}
use Rattle.vd_regions.proofs.catalog.Catalog.add_types.Given as goal

abbrev pub invariant-loop-parameter : goal.invariant-loop-parameter
invariant-loop-parameter l = l.types.items ++ map (type_among l.self) (drop l.parameter-index l.parameters)
    ≡ l.fn.types.items ++ map (type_among l.self) l.parameters
