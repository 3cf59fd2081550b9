use Rattle.std.proofs.Common.{◌∷◌, ap, subst, ◌∙◌}
use Rattle.vd_known_generics.proofs.InstanceLemmas.{at_part, declared_instance, elements_are}
use Rattle.vd_meaning.specs.Meanings.{made}
use Rattle.vd_meaning.specs.Names.{number_or}
use Rattle.vd_known_generics.proofs.instances.function_instance_declared.Goals as goal

pub returns-clause-knows : goal.returns-clause-knows
returns-clause-knows c = λ d inner k ks knows.
    let parts = c.args.parts.now in
    declared_instance c.instance_known.result d c.instance_known.new.design c.args.node.now parts inner k ks c.number_or_none-function.result c.number_made-instance.result c.elements_of-elements.result
    (c.number_or_none-function.ensures ∙ ap number_or (c.declaration_of.ensures d.table ∙ at_part d 2 parts c.skip.result (λ m. m.declaration) c.skip.ensures))
    (c.number_made-instance.ensures d.table ∙ at_part d 1 parts c.skip-2.result (λ m. number_or (made c.args.node.now m)) c.skip-2.ensures)
    (elements_are d.table c.skip-3.result c.elements_of-elements.result c.elements_of-elements.ensures ∙ at_part d 3 parts c.skip-3.result (λ m. m.elements) c.skip-3.ensures)
    (c.instance_known.ensures.knows d k ks knows)
