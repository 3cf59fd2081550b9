use Rattle.std.proofs.Common.{◌≡◌, ◌++◌, drop}
use Rattle.std.specs.List.{filter}
use Rattle.vd_name_rows.specs.Noting.{is_instance}
use Rattle.vd_naming.specs.Units.{instances_in}
use Rattle.vd_name_units.proofs.bodies.instances_in.Given as goal

abbrev pub invariant-loop-id : goal.invariant-loop-id
invariant-loop-id l = l.found.items ++ filter (is_instance l.names) (drop l.id-index l.id-items) ≡ instances_in l.fn.region l.names
