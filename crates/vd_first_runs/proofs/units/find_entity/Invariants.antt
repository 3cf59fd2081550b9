use Rattle.std.proofs.Common.{◌≡◌, None}
use Rattle.vd_forest.specs.Forest.{size}
use Rattle.vd_first_elaboration.specs.Tops.{library_units, last_passing, is_entity}
use Rattle.vd_first_runs.proofs.units.find_entity.Given as goal

abbrev pub invariant-loop-first : goal.invariant-loop-first
invariant-loop-first l = last_passing (is_entity l.name) l.found (library_units l.left) ≡ last_passing (is_entity l.name) None (library_units l.units)

abbrev pub decreases-loop-first : goal.decreases-loop-first
decreases-loop-first l = size l.left
