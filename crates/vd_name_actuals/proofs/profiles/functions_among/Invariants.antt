use Rattle.std.proofs.Common.{◌≡◌, ◌++◌, drop}
use Rattle.vd_visible.specs.Sights.{sight_from}
use Rattle.vd_naming.specs.Actuals.{functions_among}
use Rattle.vd_name_actuals.proofs.profiles.functions_among.Given as goal

abbrev pub invariant-loop-id : goal.invariant-loop-id
invariant-loop-id l = l.found.items ++ functions_among (sight_from l.place) (drop l.id-index l.ids) ≡ functions_among (sight_from l.place) l.ids
