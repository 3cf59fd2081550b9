use Rattle.std.proofs.Common.{◌≡◌, ◌++◌, drop}
use Rattle.std.specs.List.{filter}
use Rattle.std.specs.Str.{bytes_eq}
use Rattle.vd_visible.specs.Sights.{sight_from, name_of}
use Rattle.vd_ways.proofs.elements.parameters_named.Given as goal

abbrev pub invariant-loop-parameter : goal.invariant-loop-parameter
invariant-loop-parameter l =
    l.found.items ++ filter (λ k. bytes_eq (name_of (sight_from l.at) k) l.name) (drop l.parameter-index l.parameters)
    ≡ filter (λ k. bytes_eq (name_of (sight_from l.at) k) l.name) l.parameters
