use Rattle.std.proofs.Common.{sym, ◌∙◌}
use Rattle.vd_aggregate_rules.proofs.fields.position_of.Goals as goal

pub returns-clause-position : goal.returns-clause-position
returns-clause-position c = λ d k ks knows. c.from.ensures ∙ sym (c.in_ok-node.ensures.node d k ks knows).sense.position
