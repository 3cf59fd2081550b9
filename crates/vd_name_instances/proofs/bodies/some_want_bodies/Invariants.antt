use Rattle.std.proofs.Common.{◌≡◌, drop}
use Rattle.std.specs.List.{list_any}
use Rattle.vd_naming.specs.Instances.{wants_body}
use Rattle.vd_name_instances.proofs.bodies.some_want_bodies.Given as goal

abbrev pub invariant-loop-id : goal.invariant-loop-id
invariant-loop-id l = list_any (wants_body l.names) (drop l.id-index l.ids) ≡ list_any (wants_body l.names) l.ids
