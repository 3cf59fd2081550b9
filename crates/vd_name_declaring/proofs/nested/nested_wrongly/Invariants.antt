use Rattle.std.proofs.Common.{◌≡◌}
use Rattle.vd_forest.specs.Forest.{size}
use Rattle.vd_naming.specs.Views.{declarations_of, nested_wrongly}
use Rattle.vd_name_declaring.proofs.nested.nested_wrongly.Given as goal

abbrev pub invariant-loop-element : goal.invariant-loop-element
invariant-loop-element l = nested_wrongly l.names l.mark (declarations_of l.left) ≡ nested_wrongly l.names l.mark (declarations_of l.fn.elements)

abbrev pub decreases-loop-element : goal.decreases-loop-element
decreases-loop-element l = size l.left
