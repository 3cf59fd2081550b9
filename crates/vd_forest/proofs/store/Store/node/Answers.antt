use Rattle.std.proofs.Common.{arith}
use Rattle.vd_forest.proofs.BuiltLemmas.{length_nodes, node_at, read_text, Reads}
use Rattle.vd_forest.proofs.store.Store.node.Goals as goal
use Rattle.vd_forest.proofs.store.Store.node.Goals.{After-index-node}
use Rattle.vd_forest.proofs.store.Store.node.Given.{Over}

pub index-node-requires : goal.index-node-requires
index-node-requires g c =
    omega (arith, length_nodes c.self.inside.texts c.self.inside.nodes.items c.args.self.now c.self.invariant c.self.view_is, c.self.inside.nodes.ok.0)

read : (g : Over) (c : After-index-node g)
    → Reads c.self.inside.texts c.self.inside.nodes.items c.args.self.now c.self.invariant c.self.view_is c.args.number c.index-node.result.now
read g c =
    node_at c.self.inside.texts c.self.inside.nodes.items c.args.self.now c.self.invariant c.self.view_is c.args.number c.index-node.result.now c.requires.some c.requires.number_in c.index-node.ensures

pub get-text-requires : goal.get-text-requires
get-text-requires g c = (read g (goal.at.get-text-requires g c).After-index-node).text_in

pub returns-clause-is : goal.returns-clause-is
returns-clause-is g c =
    let r = read g (goal.at.returns-clause-is g c).After-index-node in
    read_text c.self.inside.texts c.self.inside.nodes.items c.args.self.now c.self.invariant c.self.view_is c.args.number c.index-node.result.now c.get-text.result.now r c.get-text.ensures

pub returns-clause-parts_older : goal.returns-clause-parts_older
returns-clause-parts_older g c = (read g (goal.at.returns-clause-parts_older g c).After-index-node).parts_in

pub returns-clause-next_older : goal.returns-clause-next_older
returns-clause-next_older g c = (read g (goal.at.returns-clause-next_older g c).After-index-node).next_in
