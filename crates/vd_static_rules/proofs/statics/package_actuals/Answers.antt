use Rattle.vd_static_rules.proofs.StaticLemmas.{package_refused}
use Rattle.vd_static_rules.proofs.statics.package_actuals.Goals as goal

pub returns-clause-finds : goal.returns-clause-finds
returns-clause-finds c = λ d k ks knows.
    package_refused d k.env c.args.parts.now c.skip-2.result c.skip.result c.parts-elements.result c.generics_of-generics.result.now c.declaration_of.result c.later_actuals.result
    (c.generics_of-generics.ensures d c.args.design.now.revision knows.table) (c.declaration_of.ensures d.table) c.skip.ensures c.parts-elements.ensures c.skip-2.ensures
    (c.later_actuals.ensures.finds d k ks knows)
