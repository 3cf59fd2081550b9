use Rattle.std.proofs.Common.{sym, ◌∙◌}
use Rattle.vd_choice_rules.proofs.selectors.mark_of.Goals as goal

pub returns-clause-mark : goal.returns-clause-mark
returns-clause-mark c = λ d k ks knows. (c.in_ok-node.ensures.node d k ks knows).sense.mark ∙ sym c.mark_in.ensures
