use Rattle.vd_port_facts.proofs.GenericLemmas.{entities_are_listed}
use Rattle.vd_port_facts.proofs.entities.listed_entities.Goals as goal

pub returns : goal.returns
returns c =
    entities_are_listed c.args.revision c.args.tree.now c.declarations.result.now c.cursor.result c.in_ok-entities.entities.items
    c.declarations.ensures c.cursor.ensures c.in_ok-entities.ensures
