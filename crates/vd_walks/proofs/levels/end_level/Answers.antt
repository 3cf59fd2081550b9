use Rattle.vd_forest.proofs.StoreLemmas.{extends_trans}
use Rattle.vd_walks.proofs.WalkingLemmas.{ended, tree_left}
use Rattle.vd_walks.proofs.levels.end_level.Goals as goal

pub returns-clause-same : goal.returns-clause-same
returns-clause-same g c =
    let w = g.T.Walking.walker c.args.by.now in
    let fs = c.args.store.now in
    let v = c.visit-tree.result in
    let end = c.in_ok-outcome.ensures in
    let next = c.in_ok-next.ensures in
    let inner_is = ended w fs c.args.out.now c.end_of.new.out c.args.design.now c.args.level c.in_ok-outcome.outcome c.requires.ended end.trees end.first end.state in
    tree_left w fs c.args.out.now c.end_of.new.out c.leave.new.out c.after_tree.new.out c.args.design.now c.leave.new.design c.args.level
    c.in_ok-next.next c.args.frame c.in_ok-outcome.outcome c.leave.new.outcome v.parts v.next v.node.form v.node.text.now v.node.place
    v.node.parts c.requires.frame_in c.visit-tree.ensures.is c.visit-tree.ensures.parts inner_is c.in_ok-leave.ensures.is.is
    (extends_trans _ _ _ end.extends c.in_ok-leave.ensures.extends) next.trees next.first next.left next.state
