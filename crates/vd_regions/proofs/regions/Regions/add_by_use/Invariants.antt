use Rattle.std.proofs.Common.{◌≡◌, ◌++◌, ◌&&◌, drop}
use Rattle.std.specs.List.{filter}
use Rattle.vd_regions.specs.Found.{apart_from, is_alone}
use Rattle.vd_regions.proofs.regions.Regions.add_by_use.Given as goal

abbrev pub invariant-loop-number : goal.invariant-loop-number
invariant-loop-number l = l.found.items ++ filter (λ k. apart_from l.self l.around k && is_alone l.self l.clause_given k) (drop l.number-index l.clause_given)
    ≡ l.fn.found.items ++ filter (λ k. apart_from l.self l.around k && is_alone l.self l.clause_given k) l.clause_given
