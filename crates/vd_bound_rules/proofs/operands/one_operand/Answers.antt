use Rattle.vd_bound_rules.proofs.OperandLemmas.{one_operand_is}
use Rattle.vd_bound_rules.proofs.operands.one_operand.Goals as goal

pub returns-clause-is : goal.returns-clause-is
returns-clause-is c = λ d s ks knows.
    let n = c.in-Some.first in
    one_operand_is d s c.args.tree.now n.form n.text.now n.place n.parts n.next c.in_ok-refused.refused c.refused_if.result c.in-Some.ensures
    (c.in_ok-refused.ensures.is d s ks knows) c.refused_if.ensures
