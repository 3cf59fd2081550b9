use Rattle.std.proofs.Common.{◌∷◌, ap, map, ◌∙◌}
use Rattle.vd_forest.specs.Forest.{parts_of}
use Rattle.vd_known_generics.proofs.InstanceLemmas.{at_part, inside_known}
use Rattle.vd_known_designs.specs.Contents.{or_nothing}
use Rattle.vd_meaning.specs.Meanings.{map_element, meanings}
use Rattle.vd_known_generics.proofs.instances.with_text.Goals as goal

pub parameters_known-requires : goal.parameters_known-requires
parameters_known-requires c =
    let r = c.requires.ready in
    record { ready = record { design = r.design; now = _; round = r.round; knows = c.in_ok-generics_stand.ensures.knows r.design r.now r.round r.knows } }

pub returns-clause-inside : goal.returns-clause-inside
returns-clause-inside c = λ d k ks knows.
    inside_known d c.parameters_known.new.design c.args.function c.args.instance (map map_element (meanings d.table (or_nothing c.args.elements.now))) c.args.text.now k ks
    c.parts-generics.result c.parts-parameters.result c.declaration_of.result c.marked.result
    (c.parts-generics.ensures ∙ ap parts_of c.skip.ensures) (c.parts-parameters.ensures ∙ ap parts_of c.skip-2.ensures)
    (c.declaration_of.ensures d.table ∙ at_part d 5 c.args.text.now c.skip-3.result (λ m. m.declaration) c.skip-3.ensures)
    (c.in_ok-parameters_known.ensures.knows d _ ks (c.in_ok-generics_stand.ensures.knows d k ks knows)) (λ from here. c.marked.ensures d from ks here)
