use Rattle.std.proofs.Common.{◌≡◌, drop}
use Rattle.serde_json.specs.View.{items_view}
use Rattle.vd_names.specs.Reading.{rows_from}
use Rattle.vd_names.proofs.ReadingLemmas.{after}
use Rattle.vd_names.proofs.reading.rows_in.Given as goal

abbrev pub invariant-loop-item : goal.invariant-loop-item
invariant-loop-item l = after l.rows.items (rows_from l.number (items_view (drop l.item-index l.items))) ≡ rows_from 1 (items_view l.items)
