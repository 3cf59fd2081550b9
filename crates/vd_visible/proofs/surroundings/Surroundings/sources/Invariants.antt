use Rattle.std.proofs.Common.{◌≡◌, ◌++◌, drop}
use Rattle.std.specs.List.{filter}
use Rattle.vd_visible.specs.Sights.{sight_from, class_of}
use Rattle.vd_visible.specs.Types.{is_converted, all_types}
use Rattle.vd_visible.proofs.surroundings.Surroundings.sources.Given as goal

abbrev pub invariant-loop-from : goal.invariant-loop-from
invariant-loop-from l =
    l.found.items ++ filter (λ u. is_converted (sight_from l.self) (class_of (sight_from l.self) u) (class_of (sight_from l.self) l.fn.mark)) (drop l.from-index l.from-items)
    ≡ filter (λ u. is_converted (sight_from l.self) (class_of (sight_from l.self) u) (class_of (sight_from l.self) l.fn.mark)) (all_types (sight_from l.self))
