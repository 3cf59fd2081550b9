use Rattle.std.proofs.Common.{◌≡◌, ◌++◌, map, drop}
use Rattle.vd_visible.specs.Sights.{sight_from, mark_of, parameters_of}
use Rattle.vd_naming.specs.Actuals.{profile}
use Rattle.vd_name_actuals.proofs.profiles.profile.Given as goal

abbrev pub invariant-loop-parameter : goal.invariant-loop-parameter
invariant-loop-parameter l =
    l.marks.items ++ map (mark_of (sight_from l.place)) (drop l.parameter-index (parameters_of (sight_from l.place) l.fn.function)) ≡ profile (sight_from l.place) l.fn.function
