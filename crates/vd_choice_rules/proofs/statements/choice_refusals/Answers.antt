use Rattle.std.proofs.Common.{sym}
use Rattle.vd_choice_rules.proofs.RuleLemmas.{firsts_found}
use Rattle.vd_port_modes.specs.Source.{design_in}
use Rattle.vd_choice_rules.proofs.statements.choice_refusals.Goals as goal

pub returns-clause-finds : goal.returns-clause-finds
returns-clause-finds c = λ s ks knows around.
    let d = design_in c.args.interfaces.now in
    let n = c.args.node.now in
    firsts_found d s n.form n.place n.parts c.in_ok-of_rules.of_rules (c.in_ok-of_rules.ensures.refused d s ks knows (sym c.revision.ensures) around.label)
