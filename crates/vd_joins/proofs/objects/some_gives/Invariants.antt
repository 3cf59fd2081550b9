use Rattle.std.proofs.Common.{◌≡◌, drop}
use Rattle.std.specs.List.{list_any}
use Rattle.vd_joins.specs.Joins.{gives_objects}
use Rattle.vd_joins.proofs.objects.some_gives.Given as goal

abbrev pub invariant-loop-row : goal.invariant-loop-row
invariant-loop-row l = list_any (gives_objects l.path19 l.path93) (drop l.row-index l.rows) ≡ list_any (gives_objects l.path19 l.path93) l.rows
