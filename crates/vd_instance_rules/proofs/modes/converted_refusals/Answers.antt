use Rattle.std.proofs.Common.{◌∙◌, ap, not}
use Rattle.vd_port_lists.specs.Modes.{read_plain}
use Rattle.vd_port_modes.specs.Readings.{read_reached}
use Rattle.vd_port_modes.specs.Source.{design_in}
use Rattle.vd_value_rules.specs.Groups.{firsts_of}
use Rattle.vd_value_rules.specs.Judging.{refused_if}
use Rattle.vd_instance_rules.proofs.ModeLemmas.{of_conversion, of_no_conversion}
use Rattle.vd_instance_rules.proofs.modes.converted_refusals.Goals as goal

pub returns-then-is_taken : goal.returns-then-is_taken
returns-then-is_taken c =
    c.firsts_if.ensures ∙ ap (λ b. firsts_of (refused_if (not b) c.args.place 402)) c.may_be_driven.ensures
    ∙ of_conversion (design_in c.args.interfaces.now) (read_plain c.args.mode) c.args.mark c.args.place (read_reached c.args.name.now) c.args.association c.is_taken-is_taken.result
    c.is_taken-is_taken.ensures c.if-is_taken.true

pub returns-else-is_taken : goal.returns-else-is_taken
returns-else-is_taken c =
    c.firsts_if-else-is_taken.ensures
    ∙ of_no_conversion (design_in c.args.interfaces.now) (read_plain c.args.mode) c.args.mark c.args.place (read_reached c.args.name.now) c.args.association c.is_taken-is_taken.result
    c.is_taken-is_taken.ensures c.if-is_taken.false
