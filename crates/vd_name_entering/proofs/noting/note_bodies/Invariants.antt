use Rattle.std.proofs.Common.{◌≡◌, drop}
use Rattle.vd_name_rows.specs.Noting.{with_bodies}
use Rattle.vd_name_entering.proofs.noting.note_bodies.Given as goal

abbrev pub invariant-loop-id : goal.invariant-loop-id
invariant-loop-id l = with_bodies (drop l.id-index l.ids) l.names ≡ with_bodies l.ids l.fn.names
