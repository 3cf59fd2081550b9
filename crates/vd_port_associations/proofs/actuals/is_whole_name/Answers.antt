use Rattle.std.proofs.Common.{◌∙◌, sym}
use Rattle.vd_port_associations.proofs.actuals.is_whole_name.Goals as goal

pub returns-clause-whole : goal.returns-clause-whole
returns-clause-whole c = λ d k ks knows. c.is_whole.ensures ∙ sym (c.in_ok-first.ensures.node d k ks knows).sense.name.is_whole
