use Rattle.vd_port_lists.proofs.InstanceLemmas.{instances_are_listed}
use Rattle.vd_port_lists.proofs.instances.listed_instances.Goals as goal

pub returns : goal.returns
returns c =
    instances_are_listed c.args.revision c.args.tree.now c.declarations.result.now c.cursor.result c.all_trees.result c.in_ok-instances.instances.items
    c.declarations.ensures c.cursor.ensures c.all_trees.ensures c.in_ok-instances.ensures
