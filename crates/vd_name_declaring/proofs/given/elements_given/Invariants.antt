use Rattle.std.specs.List.{list_all}
use Rattle.vd_forest.specs.Forest.{size}
use Rattle.vd_naming.specs.Paths.{is_some}
use Rattle.vd_naming.specs.Views.{elements_given, times_given}
use Rattle.vd_name_declaring.proofs.CountLemmas.{AreLeft}
use Rattle.vd_name_declaring.proofs.given.elements_given.Given as goal

abbrev pub invariant-loop-element : goal.invariant-loop-element
invariant-loop-element l =
    AreLeft l.given (elements_given l.left) (λ k. times_given (elements_given l.fn.elements) k) (list_all is_some (elements_given l.fn.elements))

abbrev pub decreases-loop-element : goal.decreases-loop-element
decreases-loop-element l = size l.left
