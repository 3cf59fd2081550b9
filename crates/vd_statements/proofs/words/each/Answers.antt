use Rattle.std.proofs.Common.{◌≤◌, length, arith}
use Rattle.vd_forest.proofs.StoreLemmas.{extends_trans}
use Rattle.vd_statements.specs.Words.{each_of}
use Rattle.vd_forest.specs.Store.{at}
use Rattle.vd_statements.proofs.WordLemmas.{each_step}
use Rattle.vd_statements.proofs.words.each.Goals as goal

pub loop-left-preserved : goal.loop-left-preserved
loop-left-preserved c =
    let i = c.loop-left.invariant in
    let name = c.node-behind in
    let made = c.in_ok-made in
    let older = name.ensures.next_older in
    let grown = made.ensures.extends.grows in
    let held = i.left_in in
    let behind_in : name.result.next ≤ length c.loop-left.out = omega (arith, older, held) in
    record {
      left_in = omega (arith, behind_in, grown);
      made_in = made.ensures.holds.within;
      extends = extends_trans _ _ _ i.extends made.ensures.extends;
      same =
          each_step c.args.node.now.form c.args.node.now.text.now c.args.node.now.place c.args.count (at c.args.out.now c.args.parts) (at c.loop-left.out c.args.parts) c.loop-left.out c.one.new.out
          c.loop-left.left name.result.next c.loop-left.made made.made
          (each_of c.args.node.now.form c.args.node.now.text.now c.args.node.now.place c.args.count (at c.args.out.now c.args.parts) (at c.args.out.now c.args.next))
          name.result.form name.result.text.now name.result.place (at c.loop-left.out name.result.parts)
          name.ensures.is made.ensures.extends behind_in (i.extends.keeps c.args.parts c.requires.parts_in) made.ensures.holds i.same;
    }
