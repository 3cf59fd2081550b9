use Rattle.vd_name_declaring.proofs.CountLemmas.{elements_counted}
use Rattle.vd_name_declaring.proofs.given.elements_given.Goals as goal

pub loop-element-preserved : goal.loop-element-preserved
loop-element-preserved c =
    elements_counted c.loop-element.given c.add_names.new.self c.loop-element.left c.in-Some.element.form c.in-Some.element.text.now c.in-Some.element.place
    c.in-Some.element.parts c.in-Some.element.next c.parts.result _ _ c.in-Some.ensures c.parts.ensures c.loop-element.invariant c.in_ok-add_names.ensures
