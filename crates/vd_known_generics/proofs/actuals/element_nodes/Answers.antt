use Rattle.vd_known_generics.proofs.ElementLemmas.{elements_found}
use Rattle.vd_meaning.specs.Meanings.{meanings}
use Rattle.vd_known_generics.proofs.actuals.element_nodes.Goals as goal

pub returns-in-Some-clause-elements : goal.returns-in-Some-clause-elements
returns-in-Some-clause-elements c = λ d k ks knows.
    elements_found d.table k.env c.args.design.now.table.subtypes c.args.elements.now c.in-Some.elements c.nodes.result c.in-Some.is (c.nodes.ensures.nodes d k ks knows)
