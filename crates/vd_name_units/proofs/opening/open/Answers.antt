use Rattle.std.proofs.Common.{ap}
use Rattle.vd_name_rows.specs.Rows.{Row, row_of}
use Rattle.vd_name_units.proofs.OpeningLemmas.{opened_by}
use Rattle.vd_name_units.proofs.opening.open.Goals as goal

pub returns : goal.returns
returns c =
    opened_by c.args.names.now c.open_as.new.names c.args.at.now c.open_as.new.at c.take_steps.new.at c.in_ok-first.first (row_of c.args.node.now.form)
    c.row_of-opening.result.opening c.in_ok-next.next c.args.node.now.place c.args.node.now.parts (ap (λ (r : Row). r.opening) c.row_of-opening.ensures)
    c.in_ok-next.ensures c.in_ok-first.ensures c.take_steps.ensures
