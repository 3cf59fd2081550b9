use Rattle.std.proofs.Common.{◌∙◌, ap, sym}
use Rattle.std.specs.Prelude.{Some}
use Rattle.vd_port_associations.specs.Associations.{read_brackets}
use Rattle.vd_port_modes.specs.Source.{design_in}
use Rattle.vd_value_rules.specs.Actuals.{converted_port, last_brackets, port_in_brackets}
use Rattle.vd_port_associations.proofs.formals.formal_in_brackets.Goals as goal

pub returns : goal.returns
returns c = λ ns holds.
    let d = design_in c.args.interfaces.now in
    let b = read_brackets (Some c.in-Some.brackets) in
    c.converted.ensures ns ∙ ap (λ p. converted_port d ns b p) (c.in_ok-port.ensures ns holds)
    ∙ ap (λ o. converted_port d ns o (port_in_brackets d ns o)) (ap read_brackets (sym c.in-Some.is) ∙ c.last_brackets.ensures ∙ ap last_brackets c.parts.ensures)
