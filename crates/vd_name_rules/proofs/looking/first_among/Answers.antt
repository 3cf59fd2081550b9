use Rattle.vd_name_rules.specs.Looking.{first_among, unseen}
use Rattle.vd_name_rules.proofs.LookLemmas.{next_among}
use Rattle.vd_name_rules.proofs.looking.first_among.Goals as goal

pub loop-tree-preserved : goal.loop-tree-preserved
loop-tree-preserved c =
    next_among c.args.trees.now c.loop-tree.tree-index unseen c.loop-tree.found c.lesser-found.result (first_among c.args.trees.now) c.loop-tree-test.true
    c.lesser-found.ensures c.loop-tree.invariant
