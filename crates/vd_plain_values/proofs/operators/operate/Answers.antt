use Rattle.vd_operations.specs.Readings.{read_operation}
use Rattle.vd_meaning.specs.Operators.{operate}
use Rattle.vd_plain_values.specs.Operands.{operate_on, result_subtype}
use Rattle.vd_plain_values.proofs.OperandLemmas.{operate_at, same_answer}
use Rattle.vd_plain_values.proofs.operators.operate.Goals as goal

pub returns : goal.returns
returns c = λ e holds as' are.
    same_answer c.operate_on.result (operate (read_operation c.args.operation.now) c.args.of_result e as')
    (operate_on (read_operation c.args.operation.now) (result_subtype c.args.of_result e) as')
    (operate_at (read_operation c.args.operation.now) c.args.of_result e as') (c.operate_on.ensures (result_subtype c.args.of_result e) (c.in_ok-array.ensures e holds) as' are)
