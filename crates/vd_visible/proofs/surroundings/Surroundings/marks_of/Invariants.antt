use Rattle.std.proofs.Common.{◌≡◌, ◌++◌, drop, map}
use Rattle.vd_visible.specs.Sights.{sight_from, mark_of}
use Rattle.vd_visible.proofs.surroundings.Surroundings.marks_of.Given as goal

abbrev pub invariant-loop-id : goal.invariant-loop-id
invariant-loop-id l = l.marks.items ++ map (mark_of (sight_from l.self)) (drop l.id-index l.ids) ≡ map (mark_of (sight_from l.self)) l.ids
