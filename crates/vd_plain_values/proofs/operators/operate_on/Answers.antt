use Rattle.vd_operations.specs.Readings.{read_operation}
use Rattle.vd_plain_values.specs.Operands.{on_operands, operate_on}
use Rattle.vd_plain_values.proofs.OperandLemmas.{same_answer, applied_strictly, joined_strictly, text_strictly}
use Rattle.vd_plain_values.proofs.operators.operate_on.Goals as goal

pub returns-in-Apply : goal.returns-in-Apply
returns-in-Apply c = λ s is as' are.
    same_answer c.strictly.result (operate_on (read_operation c.args.operation.now) s as') (on_operands (read_operation c.args.operation.now) s c.args.operands.now)
    (rw c.in-Apply.is (applied_strictly _ s as' c.args.operands.now are)) (c.strictly.ensures s is)

pub returns-in-Join : goal.returns-in-Join
returns-in-Join c = λ s is as' are.
    same_answer c.strictly-in-Join.result (operate_on (read_operation c.args.operation.now) s as') (on_operands (read_operation c.args.operation.now) s c.args.operands.now)
    (rw c.in-Join.is (joined_strictly _ _ s as' c.args.operands.now are)) (c.strictly-in-Join.ensures s is)

pub returns-in-TruthText : goal.returns-in-TruthText
returns-in-TruthText c = λ s is as' are.
    same_answer c.strictly-in-TruthText.result (operate_on (read_operation c.args.operation.now) s as') (on_operands (read_operation c.args.operation.now) s c.args.operands.now)
    (rw c.in-TruthText.is (text_strictly s as' c.args.operands.now are)) (c.strictly-in-TruthText.ensures s is)
