use Rattle.std.proofs.Common.{◌≡◌, ◌<◌, ◌≤◌, ◌+◌, ◌*◌, sym, subst, arith}
use Rattle.vd_forest.specs.Forest.{size}
use Rattle.vd_forest.specs.Store.{at}
use Rattle.vd_forest.proofs.StoreLemmas.{extends_trans}
use Rattle.vd_forest.proofs.CopyLemmas.{copied, AreOpen, waiting, is_opened, closed_copied, closed_open, popped_open}
use Rattle.vd_forest.proofs.store.Store.copy.Goals as goal

pub loop-left-smaller-then-left-gt0-2 : goal.loop-left-smaller-then-left-gt0-2
loop-left-smaller-then-left-gt0-2 g c =
    let i = c.loop-left.invariant in
    let some : 0 < c.loop-left.left = omega arith in
    let o = is_opened c.stands-number.result.0.now c.loop-left.self c.loop-left.pending.items c.loop-left.left c.loop-left.made c.node-left.result.parts c.node-left.result.next c.node-left.result.form c.node-left.result.text.now c.node-left.result.place c.args.from.now i.open_in some i.left_in i.made_in c.node-left.ensures.is i.same in
    subst (λ ts. 2 * size (at c.stands-number.result.0.now c.node-left.result.parts) + waiting c.stands-number.result.0.now ts < 2 * size (at c.stands-number.result.0.now c.loop-left.left) + waiting c.stands-number.result.0.now c.loop-left.pending.items) (sym c.in_ok-push.ensures.items) o.less

pub loop-left-preserved-then-left-gt0-2 : goal.loop-left-preserved-then-left-gt0-2
loop-left-preserved-then-left-gt0-2 g c =
    let i = c.loop-left.invariant in
    let some : 0 < c.loop-left.left = omega arith in
    let o = is_opened c.stands-number.result.0.now c.loop-left.self c.loop-left.pending.items c.loop-left.left c.loop-left.made c.node-left.result.parts c.node-left.result.next c.node-left.result.form c.node-left.result.text.now c.node-left.result.place c.args.from.now i.open_in some i.left_in i.made_in c.node-left.ensures.is i.same in
    record {
      left_in = omega arith;
      made_in = omega arith;
      open_in = subst (AreOpen c.stands-number.result.0.now c.loop-left.self) (sym c.in_ok-push.ensures.items) o.open_in;
      extends = i.extends;
      same =
          subst (λ ts. copied c.stands-number.result.0.now c.loop-left.self ts (at c.stands-number.result.0.now c.node-left.result.parts) ≡ c.args.from.now)
          (sym c.in_ok-push.ensures.items) o.same;
    }

pub loop-left-preserved-in-Some : goal.loop-left-preserved-in-Some
loop-left-preserved-in-Some g c =
    let i = c.loop-left.invariant in
    let fs = c.stands-number.result.0.now in
    let h = c.node-head.result in
    let none : c.loop-left.left ≤ 0 = omega arith in
    let t = popped_open fs c.loop-left.self c.loop-left.pending.items c.pop.new.self.items c.in-Some.tree c.in-Some.ensures.items i.open_in in
    record {
      left_in = omega (arith, t.within);
      made_in = c.in_ok-made.ensures.holds.within;
      open_in =
          closed_open fs c.loop-left.self c.turn.new.self c.add.new.self c.loop-left.pending.items c.pop.new.self.items c.in-Some.tree
          c.in-Some.ensures.items i.open_in c.in_ok-parts.ensures.extends c.in_ok-made.ensures.extends;
      extends = extends_trans _ _ _ i.extends (extends_trans _ _ _ c.in_ok-parts.ensures.extends c.in_ok-made.ensures.extends);
      same =
          closed_copied fs c.loop-left.self c.turn.new.self c.add.new.self c.loop-left.pending.items c.pop.new.self.items c.in-Some.tree
          c.loop-left.left c.loop-left.made c.in_ok-parts.parts h.parts h.next c.in_ok-made.made h.form h.text.now h.place c.args.from.now
          c.in-Some.ensures.items i.open_in c.in_ok-parts.ensures.extends c.in_ok-made.ensures.extends none c.in_ok-parts.ensures.holds
          c.node-head.ensures.is c.in_ok-made.ensures.holds i.same;
    }
