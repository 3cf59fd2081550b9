use Rattle.std.proofs.Common.{◌∷◌, List, reverse, refl, sym, subst, ◌∙◌, arith}
use Rattle.vd_forest.specs.Forest.{Forest}
use Rattle.vd_forest.specs.Store.{at, Extends}
use Rattle.vd_forest.proofs.StoreLemmas.{extends_same, extends_trans}
use Rattle.vd_walks.specs.Positions.{Down, Position, passed, tree_of}
use Rattle.vd_tours.specs.Tours.{AreMade, IsEntered, IsLeft}
use Rattle.vd_tours.proofs.TourLemmas.{AreIn, ended_place, in_grown, in_popped, in_pushed, is_empty, state_done, state_end, state_ended, state_first, state_inside, state_left}
use Rattle.vd_tours.proofs.touring.tour.Goals as goal

pub loop-node-init : goal.loop-node-init
loop-node-init g c =
    let f = g.T.Touring.frame c.args.by.now in
    record {
      made_in = omega arith;
      round_in = subst (λ ws. AreIn c.args.out.now (reverse ws)) (sym c.new-round.ensures.items) tt;
      extends = extends_same c.args.out.now;
      same = refl;
      state = λ before p ps grown known.
          state_first (g.T.Touring.replaces f) (g.T.Touring.becomes f) p c.args.from.now (g.T.Touring.knows c.args.by.now) before c.args.out.now ps
          c.fork-left.result c.new-round.result.items grown known c.fork-left.ensures c.new-round.ensures.items;
    }

pub loop-node-preserved-in-Done : goal.loop-node-preserved-in-Done
loop-node-preserved-in-Done g c =
    let f = g.T.Touring.frame c.args.by.now in
    let i = c.loop-node.invariant in
    let node = c.in-Some.node in
    let first = c.in_ok-trees.ensures.extends in
    let made = c.in_ok-made-in-Done.ensures in
    let grown_all = extends_trans _ _ _ first made.extends in
    record {
      made_in = made.holds.within;
      round_in = in_grown c.loop-node.out c.turn.new.self (reverse c.loop-node.round.items) grown_all i.round_in;
      extends = extends_trans _ _ _ i.extends grown_all;
      same = c.in_ok-trees.ensures.same ∙ i.same;
      state = λ before p ps grown known.
          state_done (g.T.Touring.replaces f) (g.T.Touring.becomes f) p c.args.from.now (g.T.Touring.knows c.loop-node.by) (g.T.Touring.knows c.enter.new.self)
          c.loop-node.out c.enter.new.out c.turn.new.self ps c.loop-node.left c.loop-node.made c.in-Done.trees c.in_ok-made-in-Done.made (reverse c.loop-node.round.items)
          node.form node.text.now node.place node.parts node.next c.in_ok-trees.field-0 c.in-Some.ensures c.in-Done.is
          (λ b q qs more at_place.
          subst (λ f. IsEntered (g.T.Touring.knows c.enter.new.self) (g.T.Touring.replaces f) c.enter.new.out q qs (tree_of node) c.in_ok-trees.field-0) i.same
          (c.in_ok-trees.ensures.entered b q qs more at_place))
          first made.extends i.made_in i.round_in made.holds (i.state before p ps grown known);
    }

pub loop-node-preserved-in-Inside : goal.loop-node-preserved-in-Inside
loop-node-preserved-in-Inside g c =
    let f = g.T.Touring.frame c.args.by.now in
    let i = c.loop-node.invariant in
    let node = c.in-Some.node in
    let first = c.in_ok-trees.ensures.extends in
    let pushed = c.in_ok-push-in-Inside.ensures.items in
    record {
      made_in = omega arith;
      round_in = in_pushed c.loop-node.out c.enter.new.out (record { tree = c.loop-node.left; made = c.loop-node.made }) c.loop-node.round.items c.push.new.self.items pushed first i.made_in i.round_in;
      extends = extends_trans _ _ _ i.extends first;
      same = c.in_ok-trees.ensures.same ∙ i.same;
      state = λ before p ps grown known.
          state_inside (g.T.Touring.replaces f) (g.T.Touring.becomes f) p c.args.from.now (g.T.Touring.knows c.loop-node.by) (g.T.Touring.knows c.enter.new.self)
          c.loop-node.out c.enter.new.out ps c.loop-node.left c.loop-node.made (record { tree = c.loop-node.left; made = c.loop-node.made }) c.loop-node.round.items c.push.new.self.items
          node.form node.text.now node.place node.parts node.next c.in_ok-trees.field-0 c.in-Some.ensures c.in-Inside.is refl refl pushed
          (λ b q qs more at_place.
          subst (λ f. IsEntered (g.T.Touring.knows c.enter.new.self) (g.T.Touring.replaces f) c.enter.new.out q qs (tree_of node) c.in_ok-trees.field-0) i.same
          (c.in_ok-trees.ensures.entered b q qs more at_place))
          first i.made_in i.round_in (i.state before p ps grown known);
    }

pub returns-in_default-pop-clause-made : goal.returns-in_default-pop-clause-made
returns-in_default-pop-clause-made g c =
    let f = g.T.Touring.frame c.args.by.now in
    λ before p ps grown known.
    state_end (g.T.Touring.replaces f) (g.T.Touring.becomes f) p c.args.from.now (g.T.Touring.knows c.loop-node.by) c.loop-node.out c.turn-in_default.new.self ps
    c.loop-node.left c.loop-node.made c.in_ok-parts.parts c.loop-node.round.items c.in_default.ensures
    (is_empty c.loop-node.round.items (sym c.loop-node.round.ok.0 ∙ c.in_default-pop.ensures.cases.0))
    c.in_ok-parts.ensures.extends c.in_ok-parts.ensures.holds (c.loop-node.invariant.state before p ps grown known)

pub leave-requires : goal.leave-requires
leave-requires g c κs =
    let f = g.T.Touring.frame c.args.by.now in
    let node = c.in-Some-open.node in
    let begun = c.requires.place in
    let ended = state_ended (g.T.Touring.replaces f) (g.T.Touring.becomes f) begun.here c.args.from.now (g.T.Touring.knows c.loop-node.by) c.loop-node.out begun.round
    c.loop-node.left c.loop-node.made c.in-Some-pop.last c.loop-node.round.items c.pop.new.self.items node.form node.text.now node.place node.parts node.next
    c.in_default.ensures c.in-Some-pop.ensures.items c.in-Some-open.ensures
    (c.loop-node.invariant.state begun.before begun.here begun.round begun.grown begun.known) in (
      (refl, tt),
      (
        c.in_ok-parts.ensures.holds.within,
        ended_place (g.T.Touring.replaces f) (g.T.Touring.becomes f) begun.here c.args.from.now (g.T.Touring.knows c.loop-node.by) c.loop-node.out c.turn-in_default.new.self begun.round
            (at c.loop-node.out c.loop-node.made) c.in-Some-pop.last (reverse c.pop.new.self.items) node.form node.text.now node.place node.parts node.next
            c.in_ok-parts.ensures.extends ended,
      ),
    )

pub loop-node-preserved-in-Some-open : goal.loop-node-preserved-in-Some-open
loop-node-preserved-in-Some-open g c =
    let f = g.T.Touring.frame c.args.by.now in
    let i = c.loop-node.invariant in
    let node = c.in-Some-open.node in
    let rest = reverse c.pop.new.self.items in
    let parts = c.in_ok-parts.ensures in
    let trees = c.in_ok-trees-2.ensures in
    let made = c.in_ok-made.ensures in
    let grown_all = extends_trans _ _ _ parts.extends (extends_trans _ _ _ trees.extends made.extends) in
    let here = in_popped c.loop-node.out c.loop-node.out c.in-Some-pop.last c.loop-node.round.items c.pop.new.self.items c.in-Some-pop.ensures.items (extends_same c.loop-node.out) i.round_in in
    record {
      made_in = made.holds.within;
      round_in = in_grown c.loop-node.out c.turn-in-Some-open.new.self rest grown_all here.1;
      extends = extends_trans _ _ _ i.extends grown_all;
      same = trees.same ∙ i.same;
      state = λ before p ps grown known.
          state_left (g.T.Touring.replaces f) (g.T.Touring.becomes f) p c.args.from.now (g.T.Touring.knows c.loop-node.by) (g.T.Touring.knows c.leave.new.self)
          c.loop-node.out c.turn-in_default.new.self c.leave.new.out c.turn-in-Some-open.new.self ps c.loop-node.made c.in_ok-parts.parts c.in_ok-trees-2.trees c.in_ok-made.made
          c.in-Some-pop.last rest node.form node.text.now node.place node.parts node.next parts.extends parts.holds
          (subst
          (λ f. (b : List (Forest g.row.G.Denot)) (q : Position g.row.F.Denot) (qs : List (Position g.row.F.Denot)) → Extends b c.turn-in_default.new.self
          → g.T.Touring.knows c.loop-node.by b (passed (Down (tree_of node) ∷ q) node.parts ∷ q ∷ qs)
          → AreMade (g.T.Touring.replaces f) (g.T.Touring.becomes f) (Down (tree_of node) ∷ q) node.parts (at c.turn-in_default.new.self c.in_ok-parts.parts)
          → IsLeft (g.T.Touring.knows c.leave.new.self) (g.T.Touring.becomes f) c.leave.new.out q qs (tree_of node) (at c.turn-in_default.new.self c.in_ok-parts.parts) c.in_ok-trees-2.trees)
          i.same trees.left)
          trees.extends made.extends here.0 here.1 made.holds
          (state_ended (g.T.Touring.replaces f) (g.T.Touring.becomes f) p c.args.from.now (g.T.Touring.knows c.loop-node.by) c.loop-node.out ps
          c.loop-node.left c.loop-node.made c.in-Some-pop.last c.loop-node.round.items c.pop.new.self.items node.form node.text.now node.place node.parts node.next
          c.in_default.ensures c.in-Some-pop.ensures.items c.in-Some-open.ensures (i.state before p ps grown known));
    }
