use Rattle.std.proofs.Common.{◌≤◌, length, arith}
use Rattle.vd_forest.proofs.StoreLemmas.{extends_trans}
use Rattle.vd_forest.specs.Store.{at}
use Rattle.vd_lowering.specs.Generates.{all_branches}
use Rattle.vd_lowering.proofs.GenerateLemmas.{branch_step, branches_end}
use Rattle.vd_lowering.proofs.operators.Operators.all_branches.Goals as goal

pub loop-left-preserved : goal.loop-left-preserved
loop-left-preserved c =
    let i = c.loop-left.invariant in
    let head = c.node-next in
    let made = c.in_ok-made in
    let older = head.ensures.next_older in
    let grown = made.ensures.extends.grows in
    let held = i.left_in in
    let next_in : head.result.next ≤ length c.loop-left.out = omega (arith, older, held) in
    record {
      left_in = omega (arith, next_in, grown);
      made_in = made.ensures.holds.within;
      extends = extends_trans _ _ _ i.extends made.ensures.extends;
      same =
          branch_step c.args.self.now.rows.items c.args.place (at c.args.out.now c.args.selector) (at c.loop-left.out c.args.selector) c.loop-left.out c.case_branch.new.out
          c.loop-left.left head.result.next c.loop-left.made made.made
          (all_branches c.args.self.now.rows.items c.args.place (at c.args.out.now c.args.selector) (at c.args.out.now c.args.alternatives))
          head.result.form head.result.text.now head.result.place (at c.loop-left.out head.result.parts)
          head.ensures.is made.ensures.extends next_in (i.extends.keeps c.args.selector c.requires.selector_in) made.ensures.holds i.same;
    }

pub returns-clause-holds : goal.returns-clause-holds
returns-clause-holds c =
    let i = c.loop-left.invariant in
    let end = c.loop-left-test.false in
    branches_end c.args.self.now.rows.items c.args.place (at c.args.out.now c.args.selector) c.loop-left.out c.turn.new.self c.loop-left.left c.loop-left.made c.in_ok-all.all
    (all_branches c.args.self.now.rows.items c.args.place (at c.args.out.now c.args.selector) (at c.args.out.now c.args.alternatives))
    (omega (arith, end)) c.in_ok-all.ensures.holds i.same
