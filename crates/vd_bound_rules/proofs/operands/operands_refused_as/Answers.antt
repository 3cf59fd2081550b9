use Rattle.std.proofs.Common.{IfOk, subst, sym, ◌≡◌}
use Rattle.vd_bound_rules.specs.Sorts.{operands_as}
use Rattle.vd_walks.specs.Least.{least_of}
use Rattle.vd_value_rules.specs.Bounds.{indefinite}
use Rattle.vd_bound_rules.proofs.operands.operands_refused_as.Goals as goal

pub returns-in-FirstPart-clause-is : goal.returns-in-FirstPart-clause-is
returns-in-FirstPart-clause-is c = λ d s ks knows.
    subst (λ o. IfOk c.one_operand.result (λ found. found ≡ least_of (operands_as o d s c.args.node.now.form c.args.node.now.parts))) (sym c.in-FirstPart.is)
    (c.one_operand.ensures.is d s ks knows)

pub returns-in-SecondPart-clause-is : goal.returns-in-SecondPart-clause-is
returns-in-SecondPart-clause-is c = λ d s ks knows.
    subst (λ o. IfOk c.one_operand-in-SecondPart.result (λ found. found ≡ least_of (operands_as o d s c.args.node.now.form c.args.node.now.parts))) (sym c.in-SecondPart.is)
    (subst (λ f. IfOk c.one_operand-in-SecondPart.result (λ found. found ≡ least_of (indefinite 1 d s f))) c.skip.ensures (c.one_operand-in-SecondPart.ensures.is d s ks knows))

pub returns-in-TwoParts-clause-is : goal.returns-in-TwoParts-clause-is
returns-in-TwoParts-clause-is c = λ d s ks knows.
    subst (λ o. IfOk c.two_operands.result (λ found. found ≡ least_of (operands_as o d s c.args.node.now.form c.args.node.now.parts))) (sym c.in-TwoParts.is)
    (c.two_operands.ensures.is d s ks knows)

pub returns-in-InBrackets-clause-is : goal.returns-in-InBrackets-clause-is
returns-in-InBrackets-clause-is c = λ d s ks knows.
    subst (λ o. IfOk c.in_brackets.result (λ found. found ≡ least_of (operands_as o d s c.args.node.now.form c.args.node.now.parts))) (sym c.in-InBrackets.is)
    (c.in_brackets.ensures.is d s ks knows)
