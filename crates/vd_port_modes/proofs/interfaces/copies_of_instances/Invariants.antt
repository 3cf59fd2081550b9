use Rattle.std.proofs.Common.{◌≡◌, map, take}
use Rattle.vd_port_modes.specs.Source.{copies_there}
use Rattle.vd_port_modes.proofs.interfaces.copies_of_instances.Given as goal

abbrev pub invariant-loop-instance : goal.invariant-loop-instance
invariant-loop-instance l = l.all.items ≡ map (copies_there l.declarations) (take l.instance-index l.instances)
