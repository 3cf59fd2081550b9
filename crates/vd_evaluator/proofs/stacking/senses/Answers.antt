use Rattle.vd_meaning.specs.Tables.{table}
use Rattle.vd_evaluator.proofs.TreeLemmas.{are_trees, each_ok}
use Rattle.vd_evaluator.proofs.stacking.senses.Goals as goal

pub returns : goal.returns
returns c =
    each_ok c.from_leaves.result (λ made. are_trees (table c.args.revision c.args.declarations.now) c.args.environment.now c.args.from.now made.items) c.from_leaves.ensures.comes_to
