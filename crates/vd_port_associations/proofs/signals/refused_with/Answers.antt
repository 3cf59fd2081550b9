use Rattle.std.proofs.Common.{◌≡◌, IfOk, ap, length, subst, suc, sym, ◌∙◌}
use Rattle.vd_port_associations.specs.Agreement.{first_rule}
use Rattle.vd_port_modes.specs.Readings.{read_oriented, read_oriented_some}
use Rattle.vd_port_modes.specs.Source.{design_in}
use Rattle.vd_value_rules.specs.Actuals.{all_disagree}
use Rattle.vd_value_rules.specs.Designs.{Design}
use Rattle.vd_port_associations.proofs.signals.refused_with.Goals as goal

pub returns-in-Some : goal.returns-in-Some
returns-in-Some c =
    let d : Design = design_in c.args.interfaces.now in
    subst (λ ns. IfOk c.refused_inside.result (λ found. found ≡ first_rule c.args.place ns))
    (c.pair_of.ensures (suc (suc (length d.units.views))) d ∙ ap (λ o. all_disagree d (read_oriented c.args.formal) (read_oriented_some o)) (sym c.in-Some.is))
    c.refused_inside.ensures
