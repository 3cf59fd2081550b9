use Rattle.std.proofs.Common.{◌≡◌, drop}
use Rattle.vd_port_modes.specs.Readings.{read_fields, read_oriented}
use Rattle.vd_port_modes.specs.Source.{design_in}
use Rattle.vd_value_rules.specs.Designs.{at_fields}
use Rattle.vd_port_modes.proofs.places.at_fields.Given as goal

abbrev pub invariant-loop-name : goal.invariant-loop-name
invariant-loop-name l = at_fields (design_in l.interfaces) (read_oriented l.here) (read_fields (drop l.name-index l.names)) ≡ at_fields (design_in l.interfaces) (read_oriented l.fn.from) (read_fields l.names)
