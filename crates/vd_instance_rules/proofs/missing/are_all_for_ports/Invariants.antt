use Rattle.std.proofs.Common.{◌≡◌, drop}
use Rattle.std.specs.List.{list_all}
use Rattle.std.specs.Prelude.{is_some}
use Rattle.vd_instance_rules.specs.Instances.{read_associations}
use Rattle.vd_value_rules.specs.Actuals.{port_of_formal}
use Rattle.vd_instance_rules.proofs.missing.are_all_for_ports.Given as goal

abbrev pub invariant-loop-association : goal.invariant-loop-association
invariant-loop-association l =
    list_all (λ a. is_some (port_of_formal a.formal)) (read_associations (drop l.association-index l.associations))
    ≡ list_all (λ a. is_some (port_of_formal a.formal)) (read_associations l.associations)
