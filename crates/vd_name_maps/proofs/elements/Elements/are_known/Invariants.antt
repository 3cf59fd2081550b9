use Rattle.std.proofs.Common.{◌≡◌, map, drop}
use Rattle.vd_naming.specs.Associations.{are_known}
use Rattle.vd_name_maps.specs.Seen.{seen_element}
use Rattle.vd_name_maps.proofs.elements.Elements.are_known.Given as goal

abbrev pub invariant-loop-element : goal.invariant-loop-element
invariant-loop-element l = are_known (map seen_element (drop l.element-index l.element-items)) ≡ are_known l.self
