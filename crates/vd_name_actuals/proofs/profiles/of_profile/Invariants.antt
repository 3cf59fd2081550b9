use Rattle.std.proofs.Common.{◌≡◌, ◌++◌, drop}
use Rattle.std.specs.List.{filter}
use Rattle.vd_regions.specs.Homographs.{same_types}
use Rattle.vd_visible.specs.Sights.{sight_from}
use Rattle.vd_naming.specs.Actuals.{profile, of_profile}
use Rattle.vd_name_actuals.proofs.profiles.of_profile.Given as goal

abbrev pub invariant-loop-id : goal.invariant-loop-id
invariant-loop-id l =
    l.found.items ++ filter (λ k. same_types l.wanted (profile (sight_from l.place) k)) (drop l.id-index l.id-items)
    ≡ of_profile (sight_from l.place) l.wanted l.ids
