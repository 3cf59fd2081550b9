use Rattle.std.proofs.Common.{IfOk, subst, sym, ◌≡◌}
use Rattle.vd_bound_rules.proofs.SortLemmas.{operands_by_sort}
use Rattle.vd_bound_rules.specs.Sorts.{operands_as}
use Rattle.vd_walks.specs.Least.{least_of}
use Rattle.vd_bound_rules.proofs.operands.operand_refusal.Goals as goal

pub returns-clause-is : goal.returns-clause-is
returns-clause-is c = λ d s ks knows.
    let n = c.args.node.now in
    subst (λ rs. IfOk c.operands_refused_as.result (λ found. found ≡ least_of rs)) (sym (operands_by_sort d s n.form.form n.form n.parts))
    (subst (λ o. IfOk c.operands_refused_as.result (λ found. found ≡ least_of (operands_as o d s n.form n.parts))) c.operands_of.ensures (c.operands_refused_as.ensures.is d s ks knows))
