use Rattle.std.proofs.Common.{◌∙◌, ap, sym}
use Rattle.vd_instance_rules.proofs.FirstLemmas.{found_same}
use Rattle.vd_instance_rules.specs.Instances.{whole_or_disagrees}
use Rattle.vd_port_modes.specs.Readings.{read_oriented, read_reached}
use Rattle.vd_port_modes.specs.Source.{design_in}
use Rattle.vd_value_rules.specs.Groups.{firsts_of}
use Rattle.vd_instance_rules.proofs.signals.whole_or_disagreeing.Goals as goal

pub returns-then-is_whole : goal.returns-then-is_whole
returns-then-is_whole c =
    c.firsts_if.ensures
    ∙ ap (λ b. firsts_of (whole_or_disagrees b (design_in c.args.interfaces.now) (read_oriented c.args.formal) c.args.place (read_reached c.args.name.now))) (sym c.if-is_whole.true)

pub returns-else-is_whole : goal.returns-else-is_whole
returns-else-is_whole c =
    found_same _ _ c.disagreeing.result
    (ap (λ b. firsts_of (whole_or_disagrees b (design_in c.args.interfaces.now) (read_oriented c.args.formal) c.args.place (read_reached c.args.name.now))) (sym c.if-is_whole.false))
    c.disagreeing.ensures
