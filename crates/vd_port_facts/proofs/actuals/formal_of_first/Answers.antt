use Rattle.std.proofs.Common.{ap, sym, ◌∙◌}
use Rattle.vd_port_facts.specs.Reading.{formal_first}
use Rattle.vd_port_facts.proofs.ActualLemmas.{in_front_at, named_by_last, named_itself, nothing_in_front}
use Rattle.vd_port_facts.proofs.actuals.formal_of_first.Goals as goal
use Rattle.vd_forms.specs.declared.form.Form.TheVariants as form

pub returns-in-Identifier : goal.returns-in-Identifier
returns-in-Identifier c = λ t.
    let n = c.in-Some.first in
    in_front_at t c.loop-first.rest n.form n.text.now n.place n.parts n.next form.Identifier c.in-Some.ensures c.in-Identifier.is
    ∙ c.loop-first.invariant t

pub returns-then-is_some : goal.returns-then-is_some
returns-then-is_some c = λ t.
    let n = c.in-Some.first in
    named_itself t c.loop-first.rest n.form n.text.now n.place n.parts n.next c.in-Some.ensures c.in-Name.is (sym c.if-is_some.ensures)
    ∙ c.loop-first.invariant t

pub loop-first-preserved-in-Name : goal.loop-first-preserved-in-Name
loop-first-preserved-in-Name c = λ t.
    let n = c.in-Some.first in
    ap (formal_first t) c.last_of-rest.ensures.is
    ∙ named_by_last t c.loop-first.rest n.form n.text.now n.place n.parts n.next c.in-Some.ensures c.in-Name.is (sym c.if-is_some.ensures)
    ∙ c.loop-first.invariant t

pub loop-first-preserved-in-Arguments : goal.loop-first-preserved-in-Arguments
loop-first-preserved-in-Arguments c = λ t.
    let n = c.in-Some.first in
    in_front_at t c.loop-first.rest n.form n.text.now n.place n.parts n.next form.Arguments c.in-Some.ensures c.in-Arguments.is
    ∙ c.loop-first.invariant t

pub loop-first-preserved-in-AssociationChoices : goal.loop-first-preserved-in-AssociationChoices
loop-first-preserved-in-AssociationChoices c = λ t.
    let n = c.in-Some.first in
    in_front_at t c.loop-first.rest n.form n.text.now n.place n.parts n.next form.AssociationChoices c.in-Some.ensures c.in-AssociationChoices.is
    ∙ c.loop-first.invariant t

pub loop-first-preserved : goal.loop-first-preserved
loop-first-preserved c = λ t.
    let n = c.in-Some.first in
    in_front_at t c.loop-first.rest n.form n.text.now n.place n.parts n.next form.Association c.in-Some.ensures c.in-Association.is
    ∙ c.loop-first.invariant t

pub returns-in_default-form : goal.returns-in_default-form
returns-in_default-form c = λ t.
    let n = c.in-Some.first in
    nothing_in_front t c.loop-first.rest n.form n.text.now n.place n.parts n.next c.in-Some.ensures
    c.in_default-form.not-Identifier c.in_default-form.not-Name c.in_default-form.not-Arguments c.in_default-form.not-AssociationChoices c.in_default-form.not-Association
    ∙ c.loop-first.invariant t
