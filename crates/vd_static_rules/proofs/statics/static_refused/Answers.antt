use Rattle.vd_static_rules.proofs.StaticLemmas.{form_refused, generates_refused}
use Rattle.vd_static_rules.proofs.statics.static_refused.Goals as goal

pub returns-in-IfGenerate-clause-finds : goal.returns-in-IfGenerate-clause-finds
returns-in-IfGenerate-clause-finds c = λ d k ks knows.
    generates_refused d k.env c.args.form c.args.parts.now c.not_global.result c.in-IfGenerate.is (c.not_global.ensures.finds d k ks knows)

pub returns-in-ForGenerate-clause-finds : goal.returns-in-ForGenerate-clause-finds
returns-in-ForGenerate-clause-finds c = λ d k ks knows.
    form_refused d k.env c.args.form _ c.args.parts.now c.not_global-in-ForGenerate.result c.in-ForGenerate.is (c.not_global-in-ForGenerate.ensures.finds d k ks knows)

pub returns-in-PortDeclaration-clause-finds : goal.returns-in-PortDeclaration-clause-finds
returns-in-PortDeclaration-clause-finds c = λ d k ks knows.
    form_refused d k.env c.args.form _ c.args.parts.now c.not_global_if_there.result c.in-PortDeclaration.is (c.not_global_if_there.ensures.finds d k ks knows)

pub returns-in-PackageInstantiation-clause-finds : goal.returns-in-PackageInstantiation-clause-finds
returns-in-PackageInstantiation-clause-finds c = λ d k ks knows.
    form_refused d k.env c.args.form _ c.args.parts.now c.package_actuals.result c.in-PackageInstantiation.is (c.package_actuals.ensures.finds d k ks knows)
