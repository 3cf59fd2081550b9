use Rattle.std.proofs.Common.{subst, true}
use Rattle.vd_environments.specs.Environments.{never}
use Rattle.vd_meaning.specs.Names.{Attribute, attribute_read, attributed, event_value}
use Rattle.vd_static_values.specs.Names.{IsName}
use Rattle.vd_static_parts.proofs.attributes.attributed.Goals as goal

pub returns-in-Event-clause-named : goal.returns-in-Event-clause-named
returns-in-Event-clause-named c = λ e p ground is.
    let store = c.args.ground.now.subtypes.now in
    subst (λ (a : Attribute). IsName store e c.fresh.result (attributed a c.args.index p)) c.in-Event.ensures
    (c.fresh.ensures.named store e (event_value p) c.args.index (λ _. never) (attribute_read true p) c.never.ensures (λ local. absurd (cc)))

pub returns-in-OfType-clause-named : goal.returns-in-OfType-clause-named
returns-in-OfType-clause-named c = λ e p ground is.
    subst (λ (a : Attribute). IsName c.args.ground.now.subtypes.now e c.of_type.result (attributed a c.args.index p)) c.in-OfType.ensures
    (c.of_type.ensures.named e p c.args.index is)

pub returns-in-NoAttribute-clause-named : goal.returns-in-NoAttribute-clause-named
returns-in-NoAttribute-clause-named c = λ e p ground is.
    let store = c.args.ground.now.subtypes.now in
    subst (λ (a : Attribute). IsName store e c.no_name.result (attributed a c.args.index p)) c.in-NoAttribute.ensures (c.no_name.ensures.named store e)
