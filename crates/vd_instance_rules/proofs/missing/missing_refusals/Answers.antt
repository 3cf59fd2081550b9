use Rattle.std.proofs.Common.{◌∙◌, ap}
use Rattle.vd_value_rules.specs.Groups.{firsts_of}
use Rattle.vd_value_rules.specs.Judging.{refused_if}
use Rattle.vd_instance_rules.proofs.missing.missing_refusals.Goals as goal

pub returns : goal.returns
returns c =
    c.firsts_if.ensures
    ∙ ap (λ b. firsts_of (refused_if b c.args.instance.now.place 310)) (c.is_known_missing-is_missing.ensures c.in_ok-associated.ensures)
