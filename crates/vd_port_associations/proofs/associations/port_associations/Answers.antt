use Rattle.std.proofs.Common.{drop, subst}
use Rattle.vd_port_associations.proofs.AssociationLemmas.{one_more}
use Rattle.vd_port_associations.specs.Associations.{IsAssociation}
use Rattle.vd_port_modes.specs.Source.{design_in}
use Rattle.vd_value_rules.specs.Actuals.{association_of}
use Rattle.vd_port_associations.proofs.associations.port_associations.Goals as goal

pub loop-first-preserved : goal.loop-first-preserved
loop-first-preserved c =
    let d = design_in c.args.interfaces.now in
    let f = c.in-Some.first in
    let ports = c.args.ports.now in
    one_more d ports c.args.elements.now c.loop-first.made.items c.push.new.self.items c.in_ok-association.association (drop c.loop-first.at ports)
    (drop c.behind_formal-at.result ports) c.loop-first.rest f.form f.text.now f.place f.parts f.next c.in-Some.ensures c.in_ok-push.ensures.items c.behind_formal-at.ensures
    (subst (λ o. IsAssociation c.in_ok-association.association (association_of f.form.form d ports o f.place c.loop-first.rest f.parts)) c.next_formal-next.ensures
    (c.in_ok-association.ensures ports c.in_ok-set.ensures)) c.loop-first.invariant
