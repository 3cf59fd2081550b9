use Rattle.vd_meaning.specs.Kinds
use Rattle.vd_meaning_laws.proofs.Cases.{kind_alike, all_trees_alike}
use Rattle.vd_meaning_laws.proofs.laws.renumbered_trees_are_alike.Goals as goal

pub returns-clause-nodes : goal.returns-clause-nodes
returns-clause-nodes c = λ l numbers t t' tables n text place ms ns h. kind_alike l numbers t t' tables ms ns h (Kinds.kind n.form) n text

pub returns-clause-trees : goal.returns-clause-trees
returns-clause-trees c = all_trees_alike
