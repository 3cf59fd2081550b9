use Rattle.vd_known_lengths.proofs.TreeLemmas.{all_trees}
use Rattle.vd_known_lengths.proofs.measuring.measured_trees.Goals as goal

pub returns-clause-are : goal.returns-clause-are
returns-clause-are c = all_trees c.args.over.now c.args.trees.now c.from_leaves-made.result c.from_leaves-made.ensures.comes_to
