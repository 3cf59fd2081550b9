use Rattle.std.proofs.Common.{◌∙◌}
use Rattle.vd_instance_rules.proofs.ExpressionLemmas.{of_later, of_static}
use Rattle.vd_instance_rules.proofs.ReadyLemmas.{still_ready}
use Rattle.vd_instance_rules.specs.Instances.{design_at, port_map_at, read_association}
use Rattle.vd_instance_rules.proofs.expressions.expression_refusals.Goals as goal

pub is_later_refused-requires : goal.is_later_refused-requires
is_later_refused-requires c = record {
  ready = still_ready c.args.design.now _ c.requires.ready c.in_ok-is_static.ensures.knows;
  instance = c.requires.instance;
}

pub returns-then-is_static-clause-refused : goal.returns-then-is_static-clause-refused
returns-then-is_static-clause-refused c = λ k ks knows.
    let d = design_at c.args.instance.now in
    c.nothing_refused.ensures
    ∙ of_static d k.env (port_map_at c.args.instance.now) c.args.port (read_association c.args.association.now) c.in_ok-is_static.is_static
    (c.in_ok-is_static.ensures.known d k ks knows) c.if-is_static.true

pub returns-clause-refused : goal.returns-clause-refused
returns-clause-refused c = λ k ks knows.
    let d = design_at c.args.instance.now in
    c.firsts_if.ensures
    ∙ of_later d k.env (port_map_at c.args.instance.now) c.args.port (read_association c.args.association.now) c.in_ok-is_static.is_static
    (c.in_ok-is_static.ensures.known d k ks knows) c.in_ok-is_refused.is_refused c.if-is_static.false
    (c.in_ok-is_refused.ensures k ks (c.in_ok-is_static.ensures.knows d _ knows))
