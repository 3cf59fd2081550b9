use Rattle.std.proofs.Common.{◌≡◌, take}
use Rattle.std.specs.List.{filter}
use Rattle.vd_overloads.proofs.resolving.discrete_types.Given as goal

abbrev pub invariant-loop-mark : goal.invariant-loop-mark
invariant-loop-mark g l = l.found.items ≡ filter (g.S.Setting.scene l.setting).is_discrete (take l.mark-index l.marks)
