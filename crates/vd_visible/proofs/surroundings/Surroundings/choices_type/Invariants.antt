use Rattle.std.proofs.Common.{◌≡◌, ◌++◌, map}
use Rattle.vd_visible.specs.Lists.{chosen_mark, choice_names, names_in}
use Rattle.vd_visible.specs.Sights.{sight_from}
use Rattle.vd_forest.specs.Forest.{size}
use Rattle.vd_visible.proofs.surroundings.Surroundings.choices_type.Given as goal

abbrev pub invariant-loop-first : goal.invariant-loop-first
invariant-loop-first l = l.marks.items ++ map (chosen_mark (sight_from l.self) l.fn.mark) (choice_names l.rest) ≡ map (chosen_mark (sight_from l.self) l.fn.mark) (names_in l.fn.association)

abbrev pub decreases-loop-first : goal.decreases-loop-first
decreases-loop-first l = size l.rest
