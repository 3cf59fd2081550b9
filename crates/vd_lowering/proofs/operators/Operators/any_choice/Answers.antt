use Rattle.std.proofs.Common.{◌≤◌, length, arith}
use Rattle.vd_forest.proofs.StoreLemmas.{extends_trans}
use Rattle.vd_forest.specs.Forest.{nothing}
use Rattle.vd_forest.specs.Store.{at}
use Rattle.vd_lowering.specs.Conditions.{any_choice}
use Rattle.vd_lowering.proofs.ConditionLemmas.{any_step}
use Rattle.vd_lowering.proofs.operators.Operators.any_choice.Goals as goal

pub loop-left-preserved : goal.loop-left-preserved
loop-left-preserved c =
    let i = c.loop-left.invariant in
    let head = c.node-head in
    let made = c.in_ok-found in
    let older = head.ensures.next_older in
    let grown = made.ensures.extends.grows in
    let held = i.left_in in
    let next_in : head.result.next ≤ length c.loop-left.out = omega (arith, older, held) in
    record {
      left_in = omega (arith, next_in, grown);
      found_in = made.ensures.holds.within;
      extends = extends_trans _ _ _ i.extends made.ensures.extends;
      same =
          any_step c.args.self.now.rows.items c.args.place (at c.args.out.now c.args.selector) (at c.loop-left.out c.args.selector) c.loop-left.out c.with_choice.new.out
          c.loop-left.left head.result.next c.loop-left.found made.found
          (any_choice c.args.self.now.rows.items c.args.place (at c.args.out.now c.args.selector) nothing (at c.args.out.now c.args.choices))
          head.result.form head.result.text.now head.result.place (at c.loop-left.out head.result.parts)
          head.ensures.is made.ensures.extends next_in (i.extends.keeps c.args.selector c.requires.selector_in) made.ensures.holds i.same;
    }
