use Rattle.std.proofs.Common.{◌+◌, ◌&&◌}
use Rattle.std.specs.List.{list_all}
use Rattle.vd_forest.specs.Forest.{size}
use Rattle.vd_naming.specs.Paths.{is_some}
use Rattle.vd_naming.specs.Views.{declarations_of, times_given}
use Rattle.vd_name_declaring.specs.Counted.{count_of}
use Rattle.vd_name_declaring.proofs.CountLemmas.{AreLeft}
use Rattle.vd_name_declaring.proofs.given.Given.add_names.Given as goal

abbrev pub invariant-loop-name : goal.invariant-loop-name
invariant-loop-name l =
    AreLeft l.self (declarations_of l.left) (λ k. count_of l.fn.self.times k + times_given (declarations_of l.fn.names) k)
    (l.fn.self.all_known && list_all is_some (declarations_of l.fn.names))

abbrev pub decreases-loop-name : goal.decreases-loop-name
decreases-loop-name l = size l.left
