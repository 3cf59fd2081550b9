use Rattle.std.proofs.Common.{◌∙◌, ap}
use Rattle.vd_instance_rules.proofs.FirstLemmas.{joined_with}
use Rattle.vd_port_modes.specs.Readings.{read_reached}
use Rattle.vd_port_modes.specs.Source.{design_in}
use Rattle.vd_value_rules.specs.Groups.{firsts_of}
use Rattle.vd_value_rules.specs.Judging.{refused_if}
use Rattle.vd_value_rules.specs.Names.{names_view_port, reads_out}
use Rattle.vd_instance_rules.proofs.signals.as_value.Goals as goal

pub returns : goal.returns
returns c =
    let d = design_in c.args.interfaces.now in
    let r = read_reached c.args.name.now in
    c.together.ensures
    ∙ joined_with c.firsts_if-whole.result c.firsts_if-read.result (refused_if (names_view_port d r) c.args.place 308) (refused_if (reads_out d r) c.args.place 401)
    (c.firsts_if-whole.ensures ∙ ap (λ b. firsts_of (refused_if b c.args.place 308)) c.names_view_port.ensures)
    (c.firsts_if-read.ensures ∙ ap (λ b. firsts_of (refused_if b c.args.place 401)) c.reads_out.ensures)
