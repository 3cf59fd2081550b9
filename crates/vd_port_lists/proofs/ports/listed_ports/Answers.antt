use Rattle.vd_port_lists.proofs.PortLemmas.{ports_are_listed}
use Rattle.vd_port_lists.proofs.ports.listed_ports.Goals as goal

pub returns : goal.returns
returns c =
    ports_are_listed c.args.revision c.args.tree.now c.declarations.result.now c.cursor.result c.all_trees.result c.in_ok-ports.ports.items
    c.declarations.ensures c.cursor.ensures c.all_trees.ensures c.in_ok-ports.ensures
