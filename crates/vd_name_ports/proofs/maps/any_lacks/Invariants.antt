use Rattle.std.proofs.Common.{◌≡◌, drop}
use Rattle.std.specs.List.{list_any}
use Rattle.vd_name_ports.specs.Maps.{lacks_actual}
use Rattle.vd_name_ports.proofs.maps.any_lacks.Given as goal

abbrev pub invariant-loop-port : goal.invariant-loop-port
invariant-loop-port l = list_any (lacks_actual l.names l.given) (drop l.port-index l.ports) ≡ list_any (lacks_actual l.names l.given) l.ports
