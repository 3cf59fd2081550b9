use Rattle.vd_port_facts.proofs.PortLemmas.{ports_are_listed}
use Rattle.vd_port_facts.proofs.ports.listed_ports.Goals as goal

pub returns : goal.returns
returns c =
    ports_are_listed c.args.revision c.args.tree.now c.declarations.result.now c.cursor.result c.in_ok-ports.ports.items
    c.declarations.ensures c.cursor.ensures c.in_ok-ports.ensures
