use Rattle.vd_meaning_laws.proofs.Trees.{all_nodes, all_trees}
use Rattle.vd_meaning_laws.proofs.laws_of_elaboration.renumbered_parts_are_alike.Goals as goal

pub returns-clause-nodes : goal.returns-clause-nodes
returns-clause-nodes c = all_nodes

pub returns-clause-trees : goal.returns-clause-trees
returns-clause-trees c = all_trees
