use Rattle.std.proofs.Common.{IfOk, None, [], if◌then◌else◌, refl, subst, sym, ◌≡◌, ◌∙◌}
use Rattle.vd_walks.specs.Least.{least_of}
use Rattle.vd_value_rules.specs.Bounds.{operands_of}
use Rattle.vd_bound_rules.proofs.bounds.copied_operands.Goals as goal

pub returns-then-is_asked-clause-is : goal.returns-then-is_asked-clause-is
returns-then-is_asked-clause-is c = λ d s ks knows.
    let n = c.args.node.now in
    subst (λ b. IfOk c.operand_refusal.result (λ found. found ≡ least_of (if b then operands_of n.form.form d s n.form n.parts else [])))
    (sym c.if-is_asked.true ∙ c.is_asked.ensures) (c.operand_refusal.ensures.is d s ks knows)

pub returns-else-is_asked-clause-is : goal.returns-else-is_asked-clause-is
returns-else-is_asked-clause-is c = λ d s ks knows.
    let n = c.args.node.now in
    subst (λ b. None ≡ least_of (if b then operands_of n.form.form d s n.form n.parts else [])) (sym c.if-is_asked.false ∙ c.is_asked.ensures) refl
