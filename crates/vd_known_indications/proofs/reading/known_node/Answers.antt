use Rattle.std.proofs.Common.{subst, sym}
use Rattle.vd_known_indications.specs.Found.{AreKnownNodes}
use Rattle.vd_known_indications.proofs.TreeLemmas.{first_tree, no_tree}
use Rattle.vd_known_indications.proofs.reading.known_node.Goals as goal

pub returns-in_default-clause-node : goal.returns-in_default-clause-node
returns-in_default-clause-node c = no_tree c.args.ground.now c.args.tree.now c.absent.result c.in_default.ensures c.absent.ensures.node

pub returns-clause-node : goal.returns-clause-node
returns-clause-node c =
    first_tree c.args.ground.now c.args.tree.now c.in-Some.first.form c.in-Some.first.text.now c.in-Some.first.place c.in-Some.first.parts c.in-Some.first.next c.deref.result.now c.node_of.result
    c.in-Some.ensures (subst (AreKnownNodes c.args.ground.now c.in-Some.first.parts) (sym c.deref.ensures.value) c.in_ok-parts.ensures.nodes) c.node_of.ensures.made
