use Rattle.std.proofs.Common.{◌≡◌, [], length}
use Rattle.std.specs.Prelude.{option_map}
use Rattle.vd_joins.specs.Joins.{levels_join, map_of}
use Rattle.vd_joins.specs.Levels.{unit_above}
use Rattle.vd_joins.proofs.levels.levels_join.Given as goal

abbrev pub invariant-loop-one : goal.invariant-loop-one
invariant-loop-one l = levels_join (map_of l.rows) (unit_above (option_map (λ x. x.now) l.above)) l.left l.right ≡ levels_join (map_of l.rows) [] l.fn.levels l.fn.others

abbrev pub decreases-loop-one : goal.decreases-loop-one
decreases-loop-one l = length l.left
