use Rattle.std.proofs.Common.{◌≡◌, ◌++◌, drop}
use Rattle.std.specs.List.{filter}
use Rattle.vd_visible.specs.Sights.{sight_from}
use Rattle.vd_overloads.specs.Goals.{is_possible}
use Rattle.vd_overloads.proofs.possible.with_ends.Given as goal

-- with those that are left
abbrev pub invariant-loop-state : goal.invariant-loop-state
invariant-loop-state l =
    l.found.items ++ filter (is_possible (sight_from l.at) l.ends) (drop l.state-index l.states) ≡ filter (is_possible (sight_from l.at) l.ends) l.states
