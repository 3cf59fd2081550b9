use Rattle.vd_meaning_laws.proofs.Appending.{is_apart, same_tables, own_nodes, own_trees, own_meanings}
use Rattle.vd_meaning_laws.proofs.laws.declarations_behind_change_nothing.Goals as goal

pub returns-clause-numbers : goal.returns-clause-numbers
returns-clause-numbers c = is_apart

pub returns-clause-tables : goal.returns-clause-tables
returns-clause-tables c = same_tables

pub returns-clause-nodes : goal.returns-clause-nodes
returns-clause-nodes c = own_nodes

pub returns-clause-trees : goal.returns-clause-trees
returns-clause-trees c = own_trees

pub returns-clause-meanings : goal.returns-clause-meanings
returns-clause-meanings c = own_meanings
