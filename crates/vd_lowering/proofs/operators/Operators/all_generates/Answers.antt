use Rattle.std.proofs.Common.{◌≤◌, length, arith}
use Rattle.vd_forest.proofs.StoreLemmas.{extends_trans}
use Rattle.vd_forest.specs.Forest.{nothing, text_of}
use Rattle.vd_forest.specs.Store.{at}
use Rattle.vd_lowering.specs.Generates.{all_generates}
use Rattle.vd_lowering.proofs.GenerateLemmas.{generate_step, generates_end}
use Rattle.vd_lowering.proofs.operators.Operators.all_generates.Goals as goal

pub loop-left-preserved : goal.loop-left-preserved
loop-left-preserved c =
    let i = c.loop-left.invariant in
    let head = c.node-rest in
    let made = c.in_ok-made in
    let later = c.in_ok-earlier in
    let older = head.ensures.next_older in
    let first = made.ensures.extends.grows in
    let second = later.ensures.extends.grows in
    let held = i.left_in in
    let n = c.args.node.now in
    let rest_in : head.result.next ≤ length c.loop-left.out = omega (arith, older, held) in
    record {
      left_in = omega (arith, rest_in, first, second);
      earlier_in = later.ensures.holds.within;
      made_in = let within = made.ensures.holds.within in omega (arith, within, second);
      extends = extends_trans _ _ _ i.extends (extends_trans _ _ _ made.ensures.extends later.ensures.extends);
      same =
          generate_step c.args.self.now.rows.items n.form n.text.now n.place (text_of n.parts) (at c.args.out.now c.args.label) (at c.loop-left.out c.args.label)
          c.loop-left.out c.one_generate.new.out c.not_taken.new.out
          c.loop-left.left head.result.next c.loop-left.earlier c.loop-left.made made.made later.earlier
          (all_generates c.args.self.now.rows.items n.form n.text.now n.place (text_of n.parts) (at c.args.out.now c.args.label) nothing (at c.args.out.now c.args.branches) (at c.args.out.now c.args.next))
          (at c.args.out.now c.args.next)
          head.result.form head.result.text.now head.result.place (at c.loop-left.out head.result.parts)
          head.ensures.is made.ensures.extends later.ensures.extends held rest_in i.earlier_in (i.extends.keeps c.args.label c.requires.label_in)
          made.ensures.holds later.ensures.holds i.same;
    }

pub returns-clause-holds : goal.returns-clause-holds
returns-clause-holds c =
    let i = c.loop-left.invariant in
    let n = c.args.node.now in
    let end = c.loop-left-test.false in
    generates_end c.args.self.now.rows.items n.form n.text.now n.place (text_of n.parts) (at c.args.out.now c.args.label) (at c.loop-left.out c.loop-left.earlier)
    c.args.out.now c.loop-left.out c.turn.new.self c.loop-left.left c.loop-left.made c.args.next c.in_ok-all.all
    (all_generates c.args.self.now.rows.items n.form n.text.now n.place (text_of n.parts) (at c.args.out.now c.args.label) nothing (at c.args.out.now c.args.branches) (at c.args.out.now c.args.next))
    (omega (arith, end)) i.extends c.requires.next_in c.in_ok-all.ensures.holds i.same
