use Rattle.std.proofs.Common.{sym, subst}
use Rattle.vd_meaning.specs.Tables.{table}
use Rattle.vd_evaluator.specs.Senses.{AreTrees}
use Rattle.vd_evaluator.proofs.TreeLemmas.{tree_answer}
use Rattle.vd_evaluator.proofs.evaluating.find.Goals as goal

pub returns : goal.returns
returns c =
    let t = table c.args.revision c.args.declarations.now in
    tree_answer t c.args.environment.now c.deref.result.now c.in_ok-made.made c.args.expression.now c.in-Some.first.parts c.in-Some.first.next c.in-Some.first.form c.in-Some.first.text.now c.in-Some.first.place c.value_in.result
    c.in-Some.ensures (subst (λ ss. AreTrees t c.args.environment.now ss c.in-Some.first.parts) (sym c.deref.ensures.value) c.in_ok-parts.ensures) c.in_ok-made.ensures c.value_in.ensures
