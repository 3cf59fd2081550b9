use Rattle.std.proofs.Common.{◌≡◌}
use Rattle.vd_forest.specs.Forest.{size}
use Rattle.vd_naming.specs.Views.{some_nested_wrongly}
use Rattle.vd_name_declaring.proofs.nested.some_nested_wrongly.Given as goal

abbrev pub invariant-loop-element : goal.invariant-loop-element
invariant-loop-element l = some_nested_wrongly l.names l.left ≡ some_nested_wrongly l.names l.fn.elements

abbrev pub decreases-loop-element : goal.decreases-loop-element
decreases-loop-element l = size l.left
