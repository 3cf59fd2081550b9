use Rattle.std.proofs.Common.{[], ap}
use Rattle.vd_name_entering.specs.Ended.{seen_ended}
use Rattle.vd_name_rows.specs.Designs.{At}
use Rattle.vd_name_functions.proofs.BodyLemmas.{body_entered}
use Rattle.vd_name_functions.proofs.endings.enter_body.Goals as goal

pub returns : goal.returns
returns c =
    body_entered (seen_ended [] c.args.names.now c.args.ended.now) c.args.tied c.args.id c.args.new c.outer.inside.region c.outer.inside.unit
    c.header_span-span.result c.enter.new.names c.note_span.new.names c.note_end.new.names c.in_ok-first.first
    (ap (λ (a : At). a.region) c.outer.view_is) (ap (λ (a : At). a.unit) c.outer.view_is)
    (c.header_span-span.ensures [] c.args.names.now) c.in_ok-first.ensures c.in_ok-note_span.ensures c.in_ok-note_end.ensures
