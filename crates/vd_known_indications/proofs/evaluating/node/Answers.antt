use Rattle.vd_known_indications.proofs.PlaceLemmas.{has_subtypes}
use Rattle.vd_known_indications.proofs.evaluating.node.Goals as goal

pub known_node-requires-clause-subtypes : goal.known_node-requires-clause-subtypes
known_node-requires-clause-subtypes c =
    has_subtypes c.args.design.now c.ground-ground.result c.requires.ready c.ground-ground.ensures.known c.ground-ground.ensures.subtypes
