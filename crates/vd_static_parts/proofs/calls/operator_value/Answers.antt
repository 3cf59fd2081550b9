use Rattle.std.proofs.Common.{IfOk, ap, subst, ◌∙◌}
use Rattle.vd_value_rules.specs.Indicated.{indicated_in}
use Rattle.vd_operations.specs.Readings.{read_operation}
use Rattle.vd_static_values.specs.Entries.{IsFound, table_of}
use Rattle.vd_static_parts.proofs.CallLemmas.{operator_found}
use Rattle.vd_static_parts.proofs.calls.operator_value.Goals as goal

pub returns : goal.returns
returns c = λ e as' ground are.
    let g = c.args.ground.now in
    let t = table_of g in
    subst (λ v. IfOk c.operate.result (λ x. IsFound x v))
    (operator_found t c.args.number e as' (read_operation c.operation_of-operation.result) c.mark_of.result (indicated_in c.cursor.result)
    (c.operation_of-operation.ensures g.revision) c.mark_of.ensures (ap indicated_in c.cursor.ensures ∙ c.marked_subtype-stored.ensures.is e ground))
    (c.operate.ensures as' are)
