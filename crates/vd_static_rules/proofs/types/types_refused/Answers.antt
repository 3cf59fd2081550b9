use Rattle.std.proofs.Common.{ap, ◌∙◌}
use Rattle.vd_forest.specs.Forest.{parts_of}
use Rattle.vd_meaning.specs.Meanings.{made}
use Rattle.vd_meaning.specs.Names.{number_or}
use Rattle.vd_static_rules.proofs.TypeLemmas.{at_part, function_types, package_types}
use Rattle.vd_static_rules.proofs.types.types_refused.Goals as goal

pub returns-in-PackageInstantiation : goal.returns-in-PackageInstantiation
returns-in-PackageInstantiation c = λ d k ks knows.
    let n = c.args.node.now in
    package_types d k.env n.form.form n.form n.parts c.instance_refused.result c.number_or_none-generic.result c.number_made-instance.result c.parts-elements.result c.in-PackageInstantiation.is
    (c.number_or_none-generic.ensures ∙ ap number_or (c.declaration_of.ensures d.table ∙ at_part d 1 n.parts c.skip.result (λ m. m.declaration) c.skip.ensures))
    (c.number_made-instance.ensures d.table) (c.parts-elements.ensures ∙ ap parts_of c.skip-in-PackageInstantiation.ensures)
    (c.instance_refused.ensures d k ks knows)

pub returns-in-FunctionInstantiation : goal.returns-in-FunctionInstantiation
returns-in-FunctionInstantiation c = λ d k ks knows.
    let n = c.args.node.now in
    function_types d k.env n.form.form n.form n.parts c.instance_refused-in-FunctionInstantiation.result c.number_or_none-generic-in-FunctionInstantiation.result
    c.number_made-instance-in-FunctionInstantiation.result c.parts-elements-in-FunctionInstantiation.result c.in-FunctionInstantiation.is
    (c.number_or_none-generic-in-FunctionInstantiation.ensures ∙ ap number_or (c.declaration_of-in-FunctionInstantiation.ensures d.table
    ∙ at_part d 2 n.parts c.skip-in-FunctionInstantiation.result (λ m. m.declaration) c.skip-in-FunctionInstantiation.ensures))
    (c.number_made-instance-in-FunctionInstantiation.ensures d.table
    ∙ at_part d 1 n.parts c.skip-in-FunctionInstantiation-2.result (λ m. number_or (made n.form m)) c.skip-in-FunctionInstantiation-2.ensures)
    (c.parts-elements-in-FunctionInstantiation.ensures ∙ ap parts_of c.skip-in-FunctionInstantiation-3.ensures)
    (c.instance_refused-in-FunctionInstantiation.ensures d k ks knows)
