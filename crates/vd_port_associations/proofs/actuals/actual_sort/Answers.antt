use Rattle.std.proofs.Common.{◌≡◌, subst}
use Rattle.std.specs.Prelude.{IfOk}
use Rattle.vd_port_associations.proofs.ActualLemmas.{actual_by_name, actual_by_operator}
use Rattle.vd_port_associations.specs.Associations.{read_actual}
use Rattle.vd_port_modes.specs.Source.{design_in}
use Rattle.vd_port_associations.proofs.actuals.actual_sort.Goals as goal

pub returns-in-Name-clause-sort : goal.returns-in-Name-clause-sort
returns-in-Name-clause-sort c = λ k ks knows.
    let d = design_in c.args.interfaces.now in
    let t = c.in-Some.tree in
    subst (λ s. IfOk c.sort_of_name.result (λ x. read_actual x ≡ s)) (actual_by_name d k.env c.args.actual.now t.form t.text.now t.place t.parts t.next c.in-Some.ensures c.in-Name.is)
    (c.sort_of_name.ensures.sort k ks knows)

pub returns-in-OperatorName-clause-sort : goal.returns-in-OperatorName-clause-sort
returns-in-OperatorName-clause-sort c = λ k ks knows.
    let d = design_in c.args.interfaces.now in
    let t = c.in-Some.tree in
    subst (λ s. IfOk c.sort_of_name-in-OperatorName.result (λ x. read_actual x ≡ s)) (actual_by_operator d k.env c.args.actual.now t.form t.text.now t.place t.parts t.next c.in-Some.ensures c.in-OperatorName.is)
    (c.sort_of_name-in-OperatorName.ensures.sort k ks knows)
