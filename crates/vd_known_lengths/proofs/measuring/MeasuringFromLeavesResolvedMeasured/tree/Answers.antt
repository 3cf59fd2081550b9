use Rattle.vd_known_lengths.proofs.TreeLemmas.{each_tree}
use Rattle.vd_known_lengths.proofs.measuring.MeasuringFromLeavesResolvedMeasured.tree.Goals as goal

pub returns-clause-comes_to : goal.returns-clause-comes_to
returns-clause-comes_to c = λ are.
    let tree = c.args.tree.now in
    each_tree c.args.self.now.over tree.form tree.text.now tree.place tree.parts tree.next c.args.parts.now c.measured.result are c.measured.ensures.is
