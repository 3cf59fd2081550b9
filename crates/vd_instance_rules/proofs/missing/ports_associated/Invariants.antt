use Rattle.std.proofs.Common.{take}
use Rattle.vd_instance_rules.specs.Instances.{ports_for, read_associations}
use Rattle.vd_port_associations.specs.Numbers.{Holds}
use Rattle.vd_instance_rules.proofs.missing.ports_associated.Given as goal

abbrev pub invariant-loop-association : goal.invariant-loop-association
invariant-loop-association l = Holds l.seen (ports_for (read_associations (take l.association-index l.associations)))
