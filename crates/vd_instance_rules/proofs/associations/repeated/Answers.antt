use Rattle.std.proofs.Common.{◌∙◌, ap}
use Rattle.vd_value_rules.specs.Groups.{firsts_of}
use Rattle.vd_value_rules.specs.Actuals.{is_associated}
use Rattle.vd_value_rules.specs.Judging.{refused_if}
use Rattle.vd_instance_rules.proofs.associations.repeated.Goals as goal

pub returns : goal.returns
returns c = λ as' holds.
    c.firsts_if.ensures
    ∙ ap (λ b. firsts_of (refused_if b c.args.association.now.place 310))
    (c.is_associated-is_again.ensures as' holds ∙ ap (is_associated as') c.port_of.ensures)
