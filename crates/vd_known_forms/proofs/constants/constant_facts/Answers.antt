use Rattle.std.proofs.Common.{ap, ◌∙◌}
use Rattle.vd_forest.specs.Store.{at}
use Rattle.vd_value_rules.specs.Indicated.{indicated_in, static_of}
use Rattle.vd_known_forms.proofs.ConstantLemmas.{facts_of_none}
use Rattle.vd_known_designs.specs.Shapes.{default_shape}
use Rattle.vd_known_forms.proofs.constants.constant_facts.Goals as goal

pub returns-in_ok-default_shape-in-None-clause-facts : goal.returns-in_ok-default_shape-in-None-clause-facts
returns-in_ok-default_shape-in-None-clause-facts c = λ d i k ks g found knows is.
    let own = c.cursor.ensures ∙ ap (λ fs. at fs c.args.own) c.store.ensures in
    facts_of_none c.args.value.now (static_of c.args.known) i g k.env c.is_inside.result c.in_ok-default_shape-in-None.field-0 c.in-None.is found (c.is_inside.ensures d.table k ks knows.known)
    (c.in_ok-default_shape-in-None.ensures ∙ ap (λ j. default_shape j.subtype) (ap indicated_in own ∙ is.is))
