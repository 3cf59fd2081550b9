use Rattle.std.proofs.Common.{◌∙◌, ap, sym}
use Rattle.vd_value_rules.specs.Actuals.{whole_port}
use Rattle.vd_port_associations.proofs.formals.whole_port.Goals as goal

pub returns-in-Some : goal.returns-in-Some
returns-in-Some c = λ d ns holds. c.port_if.ensures d ns holds ∙ ap (λ o. whole_port d ns o c.args.is_alone) (sym c.in-Some.is)
