use Rattle.std.proofs.Common.{◌≡◌, ◌++◌, drop}
use Rattle.vd_naming.specs.Units.{from_number}
use Rattle.vd_name_units.proofs.packages.from_number.Given as goal

abbrev pub invariant-loop-id : goal.invariant-loop-id
invariant-loop-id l = l.found.items ++ from_number l.first (drop l.id-index l.ids) ≡ from_number l.first l.ids
