use Rattle.vd_given_choices.proofs.RuleLemmas.{firsts_of_rules}
use Rattle.vd_port_associations.proofs.AgreementLemmas.{signal_of_rules}
use Rattle.vd_port_modes.specs.Readings.{read_oriented, read_reached}
use Rattle.vd_port_modes.specs.Source.{design_in}
use Rattle.vd_value_rules.specs.Actuals.{signal_broken}
use Rattle.vd_instance_rules.proofs.signals.disagreeing.Goals as goal

pub returns : goal.returns
returns c =
    let d = design_in c.args.interfaces.now in
    let o = read_oriented c.args.formal in
    let r = read_reached c.args.name.now in
    firsts_of_rules (signal_broken d o c.args.place r) c.in_ok-of_rules.of_rules (signal_of_rules d o c.args.place r) c.in_ok-of_rules.ensures
