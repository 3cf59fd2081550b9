use Rattle.std.proofs.Common.{IfOk, None, [], if◌then◌else◌, refl, subst, sym, ◌≡◌, ◌∙◌}
use Rattle.vd_walks.specs.Least.{least_of}
use Rattle.vd_value_rules.specs.Bounds.{indefinite_arguments}
use Rattle.vd_bound_rules.proofs.operands.in_brackets.Goals as goal

pub returns-then-is_operator_called-clause-is : goal.returns-then-is_operator_called-clause-is
returns-then-is_operator_called-clause-is c = λ d s ks knows.
    subst (λ b. IfOk c.arguments.result (λ found. found ≡ least_of (if b then indefinite_arguments d s c.args.node.now.parts else [])))
    (sym c.if-is_operator_called.true ∙ c.is_operator_called.ensures d c.args.design.now.revision knows.table) (c.arguments.ensures.is d s ks knows)

pub returns-else-is_operator_called-clause-is : goal.returns-else-is_operator_called-clause-is
returns-else-is_operator_called-clause-is c = λ d s ks knows.
    subst (λ b. None ≡ least_of (if b then indefinite_arguments d s c.args.node.now.parts else []))
    (sym c.if-is_operator_called.false ∙ c.is_operator_called.ensures d c.args.design.now.revision knows.table) refl
