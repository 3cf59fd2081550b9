use Rattle.std.proofs.Common.{◌≡◌, drop}
use Rattle.std.specs.List.{list_any}
use Rattle.vd_naming.specs.Selected.{is_outside}
use Rattle.vd_naming.proofs.outside.means_outside.Given as goal

abbrev pub invariant-loop-id : goal.invariant-loop-id
invariant-loop-id l = list_any (is_outside l.names.scopes l.region) (drop l.id-index l.ids) ≡ list_any (is_outside l.names.scopes l.region) l.ids
