use Rattle.std.proofs.Common.{◌++◌, ◌∷◌, refl, sym, subst, ◌∙◌, reverse}
use Rattle.vd_walks.specs.Positions.{Down, all_broken_at, tree_of}
use Rattle.vd_walks.proofs.PositionLemmas.{Walked, at_end, is_empty, no_empty, less_behind, less_inside, less_round, one_behind, one_inside, walked_first}
use Rattle.vd_walks.proofs.following.follow.Goals as goal

pub loop-node-init : goal.loop-node-init
loop-node-init g c =
    record {
      walked = λ rs p ps is.
          let b = g.T.Following.broken c.args.by.now in
          let known = g.T.Following.follows c.args.by.now in
          let whole = rs ++ all_broken_at b p c.args.from.now in
          subst (λ f. Walked b known p c.args.from.now ps whole f (reverse c.new-round.result.items)) (sym c.fork-left.ensures)
          (subst (λ gs. Walked b known p c.args.from.now ps whole c.args.from.now (reverse gs)) (sym c.new-round.ensures.items)
          (walked_first b known p c.args.from.now ps rs is));
      same = refl;
    }

pub returns-in_err-enter-clause-same : goal.returns-in_err-enter-clause-same
returns-in_err-enter-clause-same g c = c.enter.ensures.same ∙ c.loop-node.invariant.same

pub returns-in_err-push-clause-same : goal.returns-in_err-push-clause-same
returns-in_err-push-clause-same g c = c.enter.ensures.same ∙ c.loop-node.invariant.same

pub loop-node-smaller-in-Some : goal.loop-node-smaller-in-Some
loop-node-smaller-in-Some g c =
    less_inside c.loop-node.left c.in-Some.node.form c.in-Some.node.text.now c.in-Some.node.place c.in-Some.node.parts c.in-Some.node.next c.loop-node.round.items c.push.new.self.items c.in-Some.ensures c.in_ok-push.ensures.items

pub loop-node-preserved-in-Some : goal.loop-node-preserved-in-Some
loop-node-preserved-in-Some g c =
    record {
      walked = λ rs p ps is.
          one_inside (g.T.Following.broken c.args.by.now) (g.T.Following.follows c.loop-node.by) (g.T.Following.follows c.enter.new.self) p c.args.from.now ps _ c.loop-node.left
          c.in-Some.node.form c.in-Some.node.text.now c.in-Some.node.place c.in-Some.node.parts c.in-Some.node.next c.loop-node.round.items c.push.new.self.items c.in-Some.ensures c.in_ok-push.ensures.items
          (λ qs q further at.
          subst (λ b. g.T.Following.follows c.enter.new.self (qs ++ b q (tree_of c.in-Some.node)) ((Down (tree_of c.in-Some.node) ∷ q) ∷ q ∷ further)) c.loop-node.invariant.same
          (c.in_ok-enter.ensures.follows qs q further at))
          (c.loop-node.invariant.walked rs p ps is);
      same = c.enter.ensures.same ∙ c.loop-node.invariant.same;
    }

pub returns-in_default-pop-clause-follows : goal.returns-in_default-pop-clause-follows
returns-in_default-pop-clause-follows g c =
    λ rs p ps is. at_end (g.T.Following.broken c.args.by.now) (g.T.Following.follows c.loop-node.by) p c.args.from.now ps _ c.loop-node.left c.loop-node.round.items c.in_default.ensures (is_empty c.loop-node.round.items (sym c.loop-node.round.ok.0 ∙ c.in_default-pop.ensures.cases.0)) (c.loop-node.invariant.walked rs p ps is)

pub returns-in_default-pop-clause-same : goal.returns-in_default-pop-clause-same
returns-in_default-pop-clause-same g c = c.loop-node.invariant.same

pub returns-in_err-leave-clause-same : goal.returns-in_err-leave-clause-same
returns-in_err-leave-clause-same g c = c.leave.ensures.same ∙ c.loop-node.invariant.same

pub loop-node-smaller-in-Some-open : goal.loop-node-smaller-in-Some-open
loop-node-smaller-in-Some-open g c =
    less_behind c.loop-node.left c.in-Some-pop.last c.in-Some-open.node.form c.in-Some-open.node.text.now c.in-Some-open.node.place c.in-Some-open.node.parts c.in-Some-open.node.next c.loop-node.round.items c.pop.new.self.items c.in_default.ensures c.in-Some-pop.ensures.items c.in-Some-open.ensures

pub loop-node-preserved-in-Some-open : goal.loop-node-preserved-in-Some-open
loop-node-preserved-in-Some-open g c =
    record {
      walked = λ rs p ps is.
          one_behind (g.T.Following.broken c.args.by.now) (g.T.Following.follows c.loop-node.by) (g.T.Following.follows c.leave.new.self) p c.args.from.now ps _ c.loop-node.left c.in-Some-pop.last
          c.in-Some-open.node.form c.in-Some-open.node.text.now c.in-Some-open.node.place c.in-Some-open.node.parts c.in-Some-open.node.next c.loop-node.round.items c.pop.new.self.items c.in_default.ensures c.in-Some-pop.ensures.items c.in-Some-open.ensures
          c.in_ok-leave.ensures.follows (c.loop-node.invariant.walked rs p ps is);
      same = c.leave.ensures.same ∙ c.loop-node.invariant.same;
    }

pub loop-node-smaller : goal.loop-node-smaller
loop-node-smaller g c = less_round c.loop-node.left c.in-Some-pop.last c.loop-node.round.items c.pop.new.self.items c.in-Some-pop.ensures.items

pub loop-node-preserved : goal.loop-node-preserved
loop-node-preserved g c =
    record {
      walked = λ rs p ps is.
          absurd (no_empty (g.T.Following.broken c.args.by.now) (g.T.Following.follows c.loop-node.by) p c.args.from.now ps _ c.loop-node.left c.in-Some-pop.last c.loop-node.round.items c.pop.new.self.items
          c.in-Some-pop.ensures.items c.in_default-open.ensures (c.loop-node.invariant.walked rs p ps is));
      same = c.loop-node.invariant.same;
    }
