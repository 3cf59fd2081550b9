use Rattle.std.proofs.Common.{ap, ◌∙◌}
use Rattle.vd_port_facts.specs.Reading.{name_first}
use Rattle.vd_port_facts.proofs.TextLemmas.{called_at, called_itself}
use Rattle.vd_port_facts.proofs.entities.name_of_first.Goals as goal
use Rattle.vd_forms.specs.declared.form.Form.TheVariants as form

pub loop-first-preserved-in-SelectedName : goal.loop-first-preserved-in-SelectedName
loop-first-preserved-in-SelectedName c = λ t.
    let n = c.in-Some.first in
    ap (name_first t) c.last_of-rest.ensures.is
    ∙ called_at t c.loop-first.rest n.form n.text.now n.place n.parts n.next form.SelectedName c.in-Some.ensures c.in-SelectedName.is
    ∙ c.loop-first.invariant t

pub loop-first-preserved-in-Association : goal.loop-first-preserved-in-Association
loop-first-preserved-in-Association c = λ t.
    let n = c.in-Some.first in
    ap (name_first t) c.skip-rest.ensures
    ∙ called_at t c.loop-first.rest n.form n.text.now n.place n.parts n.next form.Association c.in-Some.ensures c.in-Association.is
    ∙ c.loop-first.invariant t

pub loop-first-preserved-in-OthersAssociation : goal.loop-first-preserved-in-OthersAssociation
loop-first-preserved-in-OthersAssociation c = λ t.
    let n = c.in-Some.first in
    called_at t c.loop-first.rest n.form n.text.now n.place n.parts n.next form.OthersAssociation c.in-Some.ensures c.in-OthersAssociation.is
    ∙ c.loop-first.invariant t

pub loop-first-preserved : goal.loop-first-preserved
loop-first-preserved c = λ t.
    let n = c.in-Some.first in
    called_at t c.loop-first.rest n.form n.text.now n.place n.parts n.next form.UnconstrainedIndex c.in-Some.ensures c.in-UnconstrainedIndex.is
    ∙ c.loop-first.invariant t

pub returns-in_default-form : goal.returns-in_default-form
returns-in_default-form c = λ t.
    let n = c.in-Some.first in
    c.text_of_first.ensures t
    ∙ called_itself t c.loop-first.rest n.form n.text.now n.place n.parts n.next c.in-Some.ensures
    c.in_default-form.not-SelectedName c.in_default-form.not-Association c.in_default-form.not-OthersAssociation c.in_default-form.not-UnconstrainedIndex
    ∙ c.loop-first.invariant t
