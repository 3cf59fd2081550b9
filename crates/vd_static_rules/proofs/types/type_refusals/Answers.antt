use Rattle.std.proofs.Common.{[], ap, if◌then◌else◌, sym, ◌∙◌}
use Rattle.vd_port_modes.specs.Source.{design_in}
use Rattle.vd_value_rules.specs.Groups.{firsts_of}
use Rattle.vd_static_rules.proofs.TypeLemmas.{type_firsts}
use Rattle.vd_value_rules.specs.Designs.{is_2019}
use Rattle.vd_value_rules.specs.Types.{types_broken}
use Rattle.vd_static_rules.proofs.types.type_refusals.Goals as goal

pub returns-in_ok-of_rules-in-V2019-clause-finds : goal.returns-in_ok-of_rules-in-V2019-clause-finds
returns-in_ok-of_rules-in-V2019-clause-finds c = λ s ks knows around.
    let d = design_in c.args.interfaces.now in
    let n = c.args.node.now in
    type_firsts d s.known.env n.form n.parts c.in_ok-of_rules-in-V2019.of_rules (c.in_ok-of_rules-in-V2019.ensures d s.known ks knows)
    ∙ ap (λ r. firsts_of (if is_2019 r then types_broken n.form.form d s.known.env n.form n.parts else [])) (sym c.in-V2019.is ∙ c.revision.ensures)
