use Rattle.std.proofs.Common.{sym, ap, ◌∙◌, subst, None, arith}
use Rattle.vd_forest.proofs.StoreLemmas.{extends_trans}
use Rattle.vd_walks.specs.Outcomes.{entry_seen_in}
use Rattle.vd_walks.specs.Levels.{AreFrames, of_level, of_frames}
use Rattle.vd_walks.proofs.WalkingLemmas.{tree_done, tree_entered, frames_more, frames_grown, are_frames_grown, are_frames_more}
use Rattle.vd_walks.proofs.levels.into_tree.Goals as goal

pub returns-in_ok-next-in-Done-clause-frames_in : goal.returns-in_ok-next-in-Done-clause-frames_in
returns-in_ok-next-in-Done-clause-frames_in g c =
    are_frames_grown c.args.store.now c.args.out.now c.after_tree.new.out c.args.frames.now.items
    (extends_trans _ _ _ c.in_ok-outcome.ensures.extends c.in_ok-next-in-Done.ensures.extends) c.requires.frames_in

pub returns-in_ok-next-in-Done-clause-same : goal.returns-in_ok-next-in-Done-clause-same
returns-in_ok-next-in-Done-clause-same g c =
    let w = g.T.Walking.walker c.args.by.now in
    let v = c.visit-tree.result in
    let made = c.in_ok-next-in-Done.ensures in
    let grown = extends_trans _ _ _ c.in_ok-outcome.ensures.extends made.extends in
    let entry = ap (entry_seen_in c.enter.new.out c.enter.new.design) (sym c.in-Done.is) ∙ c.in_ok-outcome.ensures.is.is in
    frames_grown w c.args.store.now c.args.out.now c.after_tree.new.out c.args.frames.now.items
    (of_level w c.args.store.now c.after_tree.new.out c.enter.new.design c.in_ok-next-in-Done.next) grown c.requires.frames_in
    ∙ ap (of_frames w c.args.store.now c.args.out.now c.args.frames.now.items)
    (tree_done w c.args.store.now c.args.out.now c.enter.new.out c.after_tree.new.out c.args.design.now c.enter.new.design c.args.level
    c.in_ok-next-in-Done.next c.in-Done.outcome v.parts v.next v.node.form v.node.text.now v.node.place v.node.parts c.requires.level_in
    c.visit-tree.ensures.is c.visit-tree.ensures.parts entry c.in_ok-outcome.ensures.extends made.trees made.first made.left made.state)

pub returns-in_ok-push-in-Inside-clause-frames_in : goal.returns-in_ok-push-in-Inside-clause-frames_in
returns-in_ok-push-in-Inside-clause-frames_in g c =
    let grown = c.in_ok-outcome.ensures.extends in
    subst (AreFrames c.args.store.now c.enter.new.out) (sym c.in_ok-push-in-Inside.ensures.items)
    (are_frames_more c.args.store.now c.enter.new.out c.args.frames.now.items _
    (are_frames_grown c.args.store.now c.args.out.now c.enter.new.out c.args.frames.now.items grown c.requires.frames_in)
    (record {
      some = c.requires.some;
      number_in = c.requires.level_in.left_in;
      trees_in = omega (arith, c.requires.level_in.trees_in, grown.grows);
    }))

pub returns-in_ok-push-in-Inside-clause-same : goal.returns-in_ok-push-in-Inside-clause-same
returns-in_ok-push-in-Inside-clause-same g c =
    let w = g.T.Walking.walker c.args.by.now in
    let fs = c.args.store.now in
    let v = c.visit-tree.result in
    let grown = c.in_ok-outcome.ensures.extends in
    let inner = of_level w fs c.enter.new.out c.enter.new.design (record { so_far = record { trees = 0; first = None }; left = v.parts; at = c.in-Inside.at }) in
    let entry = ap (entry_seen_in c.enter.new.out c.enter.new.design) (sym c.in-Inside.is) ∙ c.in_ok-outcome.ensures.is.is in
    ap (λ frames. of_frames w fs c.enter.new.out frames inner) c.in_ok-push-in-Inside.ensures.items
    ∙ frames_more w fs c.enter.new.out c.args.frames.now.items _ inner
    ∙ frames_grown w fs c.args.out.now c.enter.new.out c.args.frames.now.items _ grown c.requires.frames_in
    ∙ ap (of_frames w fs c.args.out.now c.args.frames.now.items)
    (tree_entered w fs c.args.out.now c.enter.new.out c.args.design.now c.enter.new.design c.args.level c.in-Inside.at c.in-Inside.kept
    v.parts v.next v.node.form v.node.text.now v.node.place v.node.parts c.requires.level_in c.visit-tree.ensures.is
    c.visit-tree.ensures.parts entry grown)
