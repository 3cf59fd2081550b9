use Rattle.std.proofs.Common.{◌≡◌, ◌++◌, map, drop}
use Rattle.vd_naming.specs.Actuals.{types_given}
use Rattle.vd_name_maps.specs.Seen.{seen_element}
use Rattle.vd_name_maps.proofs.types.types_given.Given as goal

abbrev pub invariant-loop-element : goal.invariant-loop-element
invariant-loop-element l =
    l.given.items ++ types_given l.at l.names (map seen_element (drop l.element-index l.elements)) ≡ types_given l.at l.names (map seen_element l.elements)
