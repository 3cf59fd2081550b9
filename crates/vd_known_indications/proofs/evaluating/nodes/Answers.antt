use Rattle.vd_known_indications.proofs.PlaceLemmas.{has_subtypes}
use Rattle.vd_known_indications.proofs.evaluating.nodes.Goals as goal

pub known_nodes-requires-clause-subtypes : goal.known_nodes-requires-clause-subtypes
known_nodes-requires-clause-subtypes c =
    has_subtypes c.args.design.now c.ground-ground.result c.requires.ready c.ground-ground.ensures.known c.ground-ground.ensures.subtypes
