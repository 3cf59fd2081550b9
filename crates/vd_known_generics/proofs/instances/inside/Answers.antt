use Rattle.std.proofs.Common.{map}
use Rattle.vd_known_generics.proofs.InstanceLemmas.{inside_none, inside_some}
use Rattle.vd_known_designs.specs.Contents.{or_nothing}
use Rattle.vd_meaning.specs.Meanings.{map_element, meanings}
use Rattle.vd_known_generics.proofs.instances.inside.Goals as goal

pub returns-in-Some-clause-inside : goal.returns-in-Some-clause-inside
returns-in-Some-clause-inside c = λ d k ks knows.
    inside_some d c.with_text.new.design c.args.function c.args.instance (map map_element (meanings d.table (or_nothing c.args.elements.now))) c.args.text.now c.in-Some.text k ks
    c.with_text.result c.in-Some.is (c.with_text.ensures.inside d k ks knows)

pub returns-in-None-clause-inside : goal.returns-in-None-clause-inside
returns-in-None-clause-inside c = λ d k ks knows.
    inside_none d c.args.design.now c.args.function c.args.instance (map map_element (meanings d.table (or_nothing c.args.elements.now))) c.args.text.now c.marked.result k ks
    c.in-None.is knows (c.marked.ensures d k ks knows)
