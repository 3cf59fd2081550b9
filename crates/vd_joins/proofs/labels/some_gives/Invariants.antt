use Rattle.std.proofs.Common.{◌≡◌, drop}
use Rattle.std.specs.Prelude.{option_map}
use Rattle.std.specs.List.{list_any}
use Rattle.vd_joins.specs.Joins.{gives_labels}
use Rattle.vd_joins.specs.Levels.{unit_above}
use Rattle.vd_joins.proofs.labels.some_gives.Given as goal

abbrev pub invariant-loop-row : goal.invariant-loop-row
invariant-loop-row l =
    list_any (gives_labels (unit_above (option_map (λ x. x.now) l.above)) l.labels l.others) (drop l.row-index l.rows)
    ≡ list_any (gives_labels (unit_above (option_map (λ x. x.now) l.above)) l.labels l.others) l.rows
