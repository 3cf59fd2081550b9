use Rattle.std.proofs.Common.{◌&&◌, IfOk, ap, subst, ◌∙◌}
use Rattle.vd_meaning.specs.Facets.{nth, value_of}
use Rattle.vd_meaning.specs.Names.{conversion_of}
use Rattle.vd_meaning.specs.Tables.{is_vector}
use Rattle.vd_static_values.specs.Names.{IsName}
use Rattle.vd_static_nodes.proofs.brackets.converted.Goals as goal

pub returns-clause-named : goal.returns-clause-named
returns-clause-named c = λ e ms m inner ground nodes.
    let store = c.args.ground.now.subtypes.now in
    let mark = c.args.mark in
    let operand = nth 0 ms in
    let between = c.is_between_vectors-between_vectors.ensures ∙ ap (λ k. is_vector mark && is_vector k) (c.first_mark.ensures store e ms nodes) in
    subst (λ b. IfOk c.conversion.result (λ x. IsName store e x (conversion_of b mark m (value_of operand) operand.known inner operand.name))) between
    (c.conversion.ensures.named e m (value_of operand) operand.known inner operand.name ground (c.in_ok-name.ensures.named store e ms nodes)
    (c.first_known-known.ensures store e ms nodes) (λ local. c.in_ok-value.ensures store e ms nodes local))
