-- An element of a map, as it is seen: its actual is the first tree of a forest.
use Rattle.vd_forest.specs.Forest.{nothing, with_next}
use Rattle.vd_naming.specs.Associations.{Element}
use Rattle.vd_name_maps.specs.declared.element.Element as code

abbrev pub seen_element : code.Element → Element
seen_element e = record { place = e.place; generic = e.generic; is_known = e.is_known; actual = with_next e.actual nothing }
