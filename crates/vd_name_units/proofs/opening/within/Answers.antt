use Rattle.vd_name_rows.specs.Members.{next_number}
use Rattle.vd_name_rows.specs.Rows.{row_of}
use Rattle.vd_name_units.proofs.OpeningLemmas.{opened_within}
use Rattle.vd_name_units.proofs.opening.within.Goals as goal

pub returns : goal.returns
returns c =
    opened_within c.args.names.now c.args.at.now c.take_steps.new.at (row_of c.args.node.now.form) c.in_ok-next.next (next_number c.args.names.now)
    c.in_ok-next.ensures c.take_steps.ensures
