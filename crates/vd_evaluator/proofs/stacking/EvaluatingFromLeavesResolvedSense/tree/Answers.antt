use Rattle.vd_meaning.specs.Tables.{table}
use Rattle.vd_evaluator.proofs.TreeLemmas.{each_ok, is_tree}
use Rattle.vd_evaluator.proofs.stacking.EvaluatingFromLeavesResolvedSense.tree.Goals as goal

pub returns-clause-comes_to : goal.returns-clause-comes_to
returns-clause-comes_to c = λ are.
    each_ok c.sense.result
    (λ s node. is_tree (table c.args.self.now.revision c.args.self.now.declarations.now) c.args.self.now.environment.now c.args.parts.now s c.args.tree.now.form c.args.tree.now.text.now c.args.tree.now.place c.args.tree.now.parts c.args.tree.now.next are node)
    c.sense.ensures
