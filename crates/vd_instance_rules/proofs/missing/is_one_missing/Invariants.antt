use Rattle.std.proofs.Common.{◌≡◌, List, drop}
use Rattle.std.specs.List.{list_any}
use Rattle.vd_instance_rules.specs.Instances.{design_at, ports_for}
use Rattle.vd_port_associations.specs.Numbers.{Holds}
use Rattle.vd_value_rules.specs.Actuals.{PortAssociation, is_missing}
use Rattle.vd_instance_rules.proofs.missing.is_one_missing.Given as goal

abbrev pub invariant-loop-port : goal.invariant-loop-port
invariant-loop-port l = (as' : List PortAssociation) → Holds l.associated (ports_for as')
    → list_any (is_missing (design_at l.instance) as') (drop l.port-index l.ports) ≡ list_any (is_missing (design_at l.instance) as') l.ports
