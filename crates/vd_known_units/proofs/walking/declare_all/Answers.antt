use Rattle.std.proofs.Common.{refl, sym, ◌∙◌}
use Rattle.vd_walks.proofs.PositionLemmas.{is_empty, less_behind, less_inside, less_round}
use Rattle.vd_known_units.proofs.WalkLemmas.{at_end, no_empty, one_behind, one_inside, remembering, walked_first}
use Rattle.vd_known_forms.proofs.FormLemmas.{knows_viewed, viewed}
use Rattle.vd_known_units.specs.Walking.{all_declared}
use Rattle.vd_known_units.proofs.walking.declare_all.Goals as goal

pub loop-node-init : goal.loop-node-init
loop-node-init g c = record {
  walked = λ d k ks views knows.
      walked_first g.T.Declares.by d c.args.design.now c.args.trees.now c.fork-left.result c.new-round.result.items k ks c.fork-left.ensures c.new-round.ensures.items knows;
}

pub loop-node-smaller-in-Some : goal.loop-node-smaller-in-Some
loop-node-smaller-in-Some g c =
    less_inside c.loop-node.left c.in-Some.node.form c.in-Some.node.text.now c.in-Some.node.place c.in-Some.node.parts c.in-Some.node.next c.loop-node.round.items c.push.new.self.items c.in-Some.ensures c.in_ok-push.ensures.items

pub loop-node-preserved-in-Some : goal.loop-node-preserved-in-Some
loop-node-preserved-in-Some g c = record {
  walked = λ d k ks views knows.
      one_inside g.T.Declares.by d (all_declared g.T.Declares.by d c.args.trees.now k) ks c.loop-node.design c.remember.new.design c.loop-node.left
      c.in-Some.node.form c.in-Some.node.text.now c.in-Some.node.place c.in-Some.node.parts c.in-Some.node.next c.loop-node.round.items c.push.new.self.items c.in-Some.ensures c.in_ok-push.ensures.items
      (λ l ls at. c.in_ok-remember.ensures.knows d l ls at) (c.loop-node.invariant.walked d k ks views knows);
}

pub returns-in_default-pop : goal.returns-in_default-pop
returns-in_default-pop g c = record {
  knows = λ d k ks views knows.
      at_end g.T.Declares.by d (all_declared g.T.Declares.by d c.args.trees.now k) ks c.loop-node.design c.loop-node.left c.loop-node.round.items c.in_default.ensures
      (is_empty c.loop-node.round.items (sym c.loop-node.round.ok.0 ∙ c.in_default-pop.ensures.cases.0)) (c.loop-node.invariant.walked d k ks views knows);
}

pub declare-requires : goal.declare-requires
declare-requires g c =
    let r = c.requires.ready in
    let d = viewed c.args.interfaces.now r.design in
    λ q. (
      (refl, tt),
      remembering g.T.Declares.by d (all_declared g.T.Declares.by d c.args.trees.now r.now) r.round c.loop-node.left c.in-Some-pop.last c.loop-node.round.items c.pop.new.self.items c.in-Some-pop.ensures.items c.loop-node.design
          c.in-Some-open.node.form c.in-Some-open.node.text.now c.in-Some-open.node.place c.in-Some-open.node.parts c.in-Some-open.node.next c.in_default.ensures c.in-Some-open.ensures
          (c.loop-node.invariant.walked d r.now r.round refl (knows_viewed c.args.interfaces.now r.design c.args.design.now _ r.knows)),
    )

pub loop-node-smaller-in-Some-open : goal.loop-node-smaller-in-Some-open
loop-node-smaller-in-Some-open g c =
    less_behind c.loop-node.left c.in-Some-pop.last c.in-Some-open.node.form c.in-Some-open.node.text.now c.in-Some-open.node.place c.in-Some-open.node.parts c.in-Some-open.node.next c.loop-node.round.items c.pop.new.self.items c.in_default.ensures c.in-Some-pop.ensures.items c.in-Some-open.ensures

pub loop-node-preserved-in-Some-open : goal.loop-node-preserved-in-Some-open
loop-node-preserved-in-Some-open g c = record {
  walked = λ d k ks views knows.
      one_behind g.T.Declares.by d (all_declared g.T.Declares.by d c.args.trees.now k) ks c.loop-node.left c.in-Some-pop.last c.loop-node.round.items c.pop.new.self.items c.in-Some-pop.ensures.items c.loop-node.design
      c.in-Some-open.node.form c.in-Some-open.node.text.now c.in-Some-open.node.place c.in-Some-open.node.parts c.in-Some-open.node.next c.in_default.ensures c.in-Some-open.ensures
      c.declare.new.design (λ inner l ls at. c.in_ok-declare.ensures.knows d inner l ls views at) (c.loop-node.invariant.walked d k ks views knows);
}

pub loop-node-smaller : goal.loop-node-smaller
loop-node-smaller g c = less_round c.loop-node.left c.in-Some-pop.last c.loop-node.round.items c.pop.new.self.items c.in-Some-pop.ensures.items

pub loop-node-preserved : goal.loop-node-preserved
loop-node-preserved g c = record {
  walked = λ d k ks views knows.
      absurd (no_empty g.T.Declares.by d (all_declared g.T.Declares.by d c.args.trees.now k) ks c.loop-node.left c.in-Some-pop.last c.loop-node.round.items c.pop.new.self.items c.in-Some-pop.ensures.items c.loop-node.design
      c.in_default-open.ensures (c.loop-node.invariant.walked d k ks views knows));
}
