use Rattle.std.proofs.Common.{arith, ap}
use Rattle.vd_forest.specs.Forest.{size}
use Rattle.vd_forest.proofs.StoreLemmas.{extends_trans}
use Rattle.vd_first_passes.specs.Lowering.{names_in, tree_names}
use Rattle.vd_first_passes.proofs.LoweringLemmas.{collected, collected_names}
use Rattle.vd_first_passes.proofs.lowering.+collecting.Goals as goal

pub collect_names-loop-first-preserved : goal.collect_names-loop-first-preserved
collect_names-loop-first-preserved t c =
    let first = c.in-Some.first in
    let all = names_in c.loop-first.left in
    let some = tree_names first.form first.text.now first.place first.parts in
    let rest = names_in first.next in
    let split = ap names_in c.in-Some.ensures in
    let now = c.in_ok-newest.ensures in
    let so_far = c.loop-first.invariant in
    record {
      smaller = omega (arith, ap size c.in-Some.ensures, so_far.smaller);
      made_in = now.holds.within;
      extends = extends_trans c.args.out.now c.loop-first.out c.collect_tree.new.out so_far.extends now.extends;
      same = collected c.loop-first.out c.collect_tree.new.out c.loop-first.seen c.collect_tree.new.seen c.loop-first.newest c.in_ok-newest.newest all some rest _ split now.holds now.names so_far.same;
      names = collected_names c.loop-first.seen c.collect_tree.new.seen _ all some rest split now.names so_far.names;
    }
