use Rattle.std.proofs.Common.{ap, ◌∙◌}
use Rattle.vd_naming.specs.Actuals.{types_given}
use Rattle.vd_name_maps.proofs.ActualsLemmas.{actuals_behind}
use Rattle.vd_name_maps.proofs.maps.map_between.Goals as goal

pub returns-clause-actuals : goal.returns-clause-actuals
returns-clause-actuals c =
    let node = c.args.node.now in
    let design = c.args.names.now in
    actuals_behind c.args.at.now design c.args.generics.now c.args.elements.now node.form node.text.now node.place node.parts c.in_ok-place.place
    c.in_ok-stand_ins.stand_ins c.in_ok-types.types.items c.in_ok-actuals.actuals.items
    c.in_ok-place.ensures
    (c.in_ok-stand_ins.ensures ∙ ap (λ ts. record { generics = c.args.generics.now; actuals = ts }) c.as_slice-2.ensures.value)
    (c.in_ok-types.ensures ∙ ap (types_given c.args.at.now design) c.as_slice.ensures)
    c.in_ok-actuals.ensures
