use Rattle.vd_known_indications.proofs.TreeLemmas.{each_tree}
use Rattle.vd_known_indications.proofs.reading.ReadingFromLeavesResolvedNode.tree.Goals as goal

pub returns-clause-comes_to : goal.returns-clause-comes_to
returns-clause-comes_to c = λ are.
    each_tree c.args.self.now.ground c.args.tree.now.form c.args.tree.now.text.now c.args.tree.now.place c.args.tree.now.parts c.args.tree.now.next c.args.parts.now c.node_of.result are c.node_of.ensures.made
