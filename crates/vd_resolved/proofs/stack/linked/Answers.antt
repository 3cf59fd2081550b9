use Rattle.std.proofs.Common.{refl, arith, ◌-◌}
use Rattle.vd_forest.proofs.StoreLemmas.{extends_same, extends_trans}
use Rattle.vd_resolved.proofs.StackLemmas.{tree_at, trees_more, linked_more, nothing_left}
use Rattle.vd_resolved.proofs.stack.linked.Goals as goal

pub loop-left-init : goal.loop-left-init
loop-left-init c = record {
  below = c.requires.from_in;
  within = omega arith;
  trees = c.requires.trees;
  extends = extends_same c.args.store.now;
  holds = nothing_left c.args.store.now c.args.numbers.now;
}

pub joined-requires-clause-tree : goal.joined-requires-clause-tree
joined-requires-clause-tree c =
    tree_at c.loop-left.store c.args.numbers.now (c.loop-left.left - 1) _ 0 c.loop-left.invariant.trees
    (omega (arith, c.loop-left-test.true, c.loop-left.invariant.within)) refl

pub loop-left-preserved : goal.loop-left-preserved
loop-left-preserved c =
    let i = c.loop-left.invariant in
    record {
      below = omega (arith, c.loop-left-test.true);
      within = omega (arith, i.within);
      trees = trees_more c.loop-left.store c.joined.new.store c.args.numbers.now c.in_ok-made.ensures.extends i.trees;
      extends = extends_trans c.args.store.now c.loop-left.store c.joined.new.store i.extends c.in_ok-made.ensures.extends;
      holds = linked_more c.args.store.now c.loop-left.store c.joined.new.store c.args.numbers.now c.loop-left.left _ c.loop-left.made c.in_ok-made.made 0
          (omega (arith, c.loop-left-test.true)) i.within c.requires.trees i.extends c.in_ok-made.ensures.extends refl i.holds.is c.in_ok-made.ensures.holds;
    }
