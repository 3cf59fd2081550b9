use Rattle.std.proofs.Common.{refl, sym, ap, subst, ◌∙◌, map}
use Rattle.vd_meaning.specs.Kinds
use Rattle.vd_meaning.specs.Tables.{table, followed}
use Rattle.vd_meaning.specs.Operators.{operate}
use Rattle.vd_operations.specs.Readings.{read_operation}
use Rattle.vd_plain_values.specs.Operands.{AreArguments}
use Rattle.vd_evaluator.specs.Senses.{sense_outline}
use Rattle.vd_evaluator.proofs.SenseLemmas.{operator_node, operator_written, untaken_node}
use Rattle.vd_evaluator.proofs.nodes.operator.Goals as goal

pub returns : goal.returns
returns c =
    let t = table c.args.revision c.args.declarations.now in
    untaken_node t c.args.environment.now c.args.node c.args.text.now Kinds.Operator c.args.parts.now _ refl
    (operator_written t c.args.node c.followed-number.result (map sense_outline c.args.parts.now) (c.followed-number.ensures c.args.revision ∙ ap (followed t) c.number_of.ensures) (sym c.is_predefined.ensures ∙ c.if-is_predefined.false))

pub returns-then-is_predefined : goal.returns-then-is_predefined
returns-then-is_predefined c =
    let t = table c.args.revision c.args.declarations.now in
    let d = c.followed-number.result in
    operator_node t c.args.environment.now c.args.node c.args.text.now c.args.parts.now _ c.in-Some.values.items c.in_ok-found.found d
    (c.followed-number.ensures c.args.revision ∙ ap (followed t) c.number_of.ensures) (rw c.in-Some.is at c.in_ok-values.ensures) (sym c.is_predefined.ensures ∙ c.if-is_predefined.true)
    (λ e holds as' are.
    ap (λ o. operate o (t.declared d).mark e as') (sym (c.operation_of-operation.ensures c.args.revision))
    ∙ ap (λ m. operate (read_operation c.operation_of-operation.result) m e as') (sym c.mark_of-of_result.ensures)
    ∙ c.in_ok-found.ensures e holds as' (subst (AreArguments as') (sym c.deref.ensures.value) are))
    refl refl
