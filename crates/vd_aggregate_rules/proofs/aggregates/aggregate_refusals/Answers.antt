use Rattle.vd_aggregate_rules.proofs.AggregateLemmas.{firsts_found}
use Rattle.vd_port_modes.specs.Source.{design_in}
use Rattle.vd_aggregate_rules.proofs.aggregates.aggregate_refusals.Goals as goal

pub returns-clause-finds : goal.returns-clause-finds
returns-clause-finds c = λ s ks knows around.
    let d = design_in c.args.interfaces.now in
    let n = c.args.node.now in
    firsts_found d s n.form n.place n.parts c.in_ok-of_rules.of_rules (c.in_ok-of_rules.ensures.refused d s ks knows around.bounded)
