use Rattle.std.proofs.Common.{ap, ◌∙◌}
use Rattle.vd_environments.specs.Environments.{is_static}
use Rattle.vd_instance_rules.proofs.expressions.is_first_static.Goals as goal

pub returns-clause-known : goal.returns-clause-known
returns-clause-known c = λ d k ks knows. c.is_static.ensures ∙ ap is_static (c.in_ok-first.ensures.node d k ks knows).sense.known
