use Rattle.std.proofs.Common.{arith}
use Rattle.vd_plain_values.proofs.OperandLemmas.{lazily_answer}
use Rattle.vd_plain_values.proofs.operators.lazily.Goals as goal

pub returns-in-Ok : goal.returns-in-Ok
returns-in-Ok c = λ as' are.
    lazily_answer c.args.operator as' c.in-Ok.left c.args.operands.now c.left-item.result c.right-item.result c.lazily_from.result (omega arith) (omega arith) c.left-item.is c.right-item.is c.in-Ok.is c.lazily_from.ensures are
