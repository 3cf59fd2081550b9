use Rattle.std.proofs.Common.{◌≡◌, drop}
use Rattle.vd_visible.specs.Lists.{formals, are_given}
use Rattle.vd_visible.specs.Sights.{sight_from}
use Rattle.vd_visible.proofs.surroundings.Surroundings.are_given.Given as goal

abbrev pub invariant-loop-parameter : goal.invariant-loop-parameter
invariant-loop-parameter l = are_given (sight_from l.self) (drop l.parameter-index l.parameters) (formals l.trees) ≡ are_given (sight_from l.self) l.parameters (formals l.trees)
