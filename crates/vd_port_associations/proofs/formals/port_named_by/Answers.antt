use Rattle.std.proofs.Common.{◌∙◌, ap, ap₂, sym}
use Rattle.vd_meaning.specs.Brackets.{or_else}
use Rattle.vd_port_associations.proofs.ActualLemmas.{or_is}
use Rattle.vd_port_modes.specs.Source.{design_in}
use Rattle.vd_value_rules.specs.Actuals.{port_named_by, whole_port}
use Rattle.vd_port_associations.proofs.formals.port_named_by.Goals as goal

pub returns-in_ok-reached-in-Name : goal.returns-in_ok-reached-in-Name
returns-in_ok-reached-in-Name c = λ ns holds.
    let d = design_in c.args.interfaces.now in
    let n = c.args.tree.now.form in
    let r = c.in_ok-reached-in-Name in
    c.whole_port.ensures d ns holds
    ∙ ap₂ (λ o b. whole_port d ns o b)
    (c.or-number.ensures ∙ or_is n.declaration r.reached.declaration ∙ ap (λ x. or_else n.declaration x.declaration) r.ensures) c.is_single.ensures
    ∙ ap (λ f. port_named_by f d ns n c.args.tree.now.parts) (sym c.in-Name.is)
