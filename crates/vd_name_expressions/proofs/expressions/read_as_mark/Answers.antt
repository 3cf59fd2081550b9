use Rattle.std.proofs.Common.{ap}
use Rattle.vd_name_rows.specs.Designs.{At}
use Rattle.vd_name_expressions.proofs.WholeLemmas.{mark_read_whole}
use Rattle.vd_name_expressions.proofs.expressions.read_as_mark.Goals as goal

pub returns-clause-is : goal.returns-clause-is
returns-clause-is c =
    mark_read_whole c.args.at.now c.args.names.now c.args.tree.now c.in_ok-pieces.pieces c.mark_read_beside.new.out c.in_ok-read.read c.in_ok-place.place c.at.inside.region
    c.in_ok-place.ensures (ap (λ (a : At). a.region) c.at.view_is)
    c.in_ok-pieces.ensures c.in_ok-read.ensures.is
