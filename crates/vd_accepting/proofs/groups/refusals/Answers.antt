use Rattle.std.proofs.Common.{◌∷◌, ◌∙◌, ap}
use Rattle.vd_port_modes.specs.Source.{design_in}
use Rattle.vd_value_rules.specs.Groups.{aggregates, bounds, choices, instances, joined_firsts, static_expressions, types}
use Rattle.vd_value_rules.specs.declared.firsts.Firsts.{Firsts}
use Rattle.vd_accepting.proofs.GroupLemmas.{six_together}
use Rattle.vd_known_units.proofs.PassingLemmas.{ready_kept}
use Rattle.vd_accepting.proofs.groups.refusals.Goals as goal

pub aggregate_refusals-requires : goal.aggregate_refusals-requires
aggregate_refusals-requires c = record { ready = ready_kept c.args.design.now _ c.requires.ready (λ d ks knows. c.in_ok-choices.ensures.knows d ks knows) }

pub static_refusals-requires : goal.static_refusals-requires
static_refusals-requires c = record { ready = ready_kept c.args.design.now _ c.requires.ready (λ d ks knows. c.in_ok-aggregates.ensures.knows d ks (c.in_ok-choices.ensures.knows d ks knows)) }

pub bound_refusals-requires : goal.bound_refusals-requires
bound_refusals-requires c = record { ready = ready_kept c.args.design.now _ c.requires.ready (λ d ks knows. c.in_ok-statics.ensures.knows d ks (c.in_ok-aggregates.ensures.knows d ks (c.in_ok-choices.ensures.knows d ks knows))) }

pub instance_refusals-requires : goal.instance_refusals-requires
instance_refusals-requires c = record { ready = ready_kept c.args.design.now _ c.requires.ready (λ d ks knows. c.in_ok-bounds.ensures.knows d ks (c.in_ok-statics.ensures.knows d ks (c.in_ok-aggregates.ensures.knows d ks (c.in_ok-choices.ensures.knows d ks knows)))); same = c.requires.same }

pub type_refusals-requires : goal.type_refusals-requires
type_refusals-requires c = record { ready = ready_kept c.args.design.now _ c.requires.ready (λ d ks knows. c.in_ok-instances.ensures.knows d ks (c.in_ok-bounds.ensures.knows d ks (c.in_ok-statics.ensures.knows d ks (c.in_ok-aggregates.ensures.knows d ks (c.in_ok-choices.ensures.knows d ks knows))))) }

pub returns-clause-finds : goal.returns-clause-finds
returns-clause-finds c = λ s ks knows around.
    let d = design_in c.args.interfaces.now in
    let all = s.known ∷ ks in
    let one = c.in_ok-choices.ensures.knows d all knows in
    let two = c.in_ok-aggregates.ensures.knows d all one in
    let three = c.in_ok-statics.ensures.knows d all two in
    let four = c.in_ok-bounds.ensures.knows d all three in
    let five = c.in_ok-instances.ensures.knows d all four in
    let j : Firsts → Firsts → Firsts = joined_firsts in
    let n = c.args.node.now in
    c.together.ensures
    ∙ ap (j c.in_ok-choices.choices) (c.together-with_aggregates.ensures ∙ ap (j c.in_ok-aggregates.aggregates)
    (c.together-with_statics.ensures ∙ ap (j c.in_ok-statics.statics) (c.together-with_bounds.ensures ∙ ap (j c.in_ok-bounds.bounds) c.together-last.ensures)))
    ∙ six_together c.in_ok-choices.choices c.in_ok-aggregates.aggregates c.in_ok-statics.statics c.in_ok-bounds.bounds c.in_ok-instances.instances c.in_ok-types.types
    (choices d s n.form n.text.now n.place n.parts) (aggregates d s n.form n.text.now n.place n.parts) (static_expressions d s n.form n.text.now n.place n.parts)
    (bounds d s n.form n.text.now n.place n.parts) (instances d s n.form n.text.now n.place n.parts) (types d s n.form n.text.now n.place n.parts)
    (c.in_ok-choices.ensures.finds s ks knows around) (c.in_ok-aggregates.ensures.finds s ks one around) (c.in_ok-statics.ensures.finds s ks two around)
    (c.in_ok-bounds.ensures.finds s ks three around) (c.in_ok-instances.ensures.finds s ks four around) (c.in_ok-types.ensures.finds s ks five around)
