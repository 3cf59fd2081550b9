use Rattle.std.proofs.Common.{◌≡◌, ◌++◌, drop}
use Rattle.std.specs.List.{filter}
use Rattle.vd_visible.specs.Lists.{is_element}
use Rattle.vd_visible.specs.Sights.{sight_from, class_of}
use Rattle.vd_visible.proofs.surroundings.Surroundings.elements_named.Given as goal

abbrev pub invariant-loop-id : goal.invariant-loop-id
invariant-loop-id l = l.found.items ++ filter (λ k. is_element (class_of (sight_from l.self) k)) (drop l.id-index l.ids) ≡ filter (λ k. is_element (class_of (sight_from l.self) k)) l.ids
