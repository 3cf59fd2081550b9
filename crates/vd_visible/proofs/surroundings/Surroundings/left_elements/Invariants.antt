use Rattle.std.proofs.Common.{◌≡◌, ◌++◌, drop}
use Rattle.std.specs.List.{filter}
use Rattle.vd_visible.specs.Lists.{is_left}
use Rattle.vd_visible.specs.Sights.{sight_from}
use Rattle.vd_visible.proofs.surroundings.Surroundings.left_elements.Given as goal

abbrev pub invariant-loop-field : goal.invariant-loop-field
invariant-loop-field l = l.left.items ++ filter (is_left (sight_from l.self) l.elements) (drop l.field-index l.fields) ≡ filter (is_left (sight_from l.self) l.elements) l.fields
