use Rattle.std.proofs.Common.{◌≡◌, map, take}
use Rattle.vd_naming.specs.Settled.{settled}
use Rattle.vd_name_resolution.proofs.declared.settle_list.Given as goal

abbrev pub invariant-loop-id : goal.invariant-loop-id
invariant-loop-id l = l.others.items ≡ map (settled l.settling) (take l.id-index l.list)
