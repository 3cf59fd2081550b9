use Rattle.vd_known_indications.proofs.TreeLemmas.{all_trees, jumps_over, sound_over}
use Rattle.vd_known_indications.proofs.reading.known_nodes.Goals as goal

pub returns-clause-nodes : goal.returns-clause-nodes
returns-clause-nodes c = all_trees c.args.ground.now c.args.trees.now c.from_leaves-made.result c.from_leaves-made.ensures.comes_to

pub returns-clause-sound : goal.returns-clause-sound
returns-clause-sound c = sound_over c.args.ground.now c.from_leaves-made.new.by.ground c.from_leaves-made.result c.from_leaves-made.ensures.same c.from_leaves-made.ensures.sound

pub returns-clause-fields : goal.returns-clause-fields
returns-clause-fields c = jumps_over c.args.ground.now c.from_leaves-made.new.by.ground c.from_leaves-made.new.by.fields.jumps.items c.from_leaves-made.ensures.same c.from_leaves-made.ensures.ready.1
