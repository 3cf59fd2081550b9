use Rattle.std.proofs.Common.{◌+◌, arith, drop}
use Rattle.std.proofs.Math.ListN.{drop_of_length-le}
use Rattle.vd_forest.proofs.StoreLemmas.{extends_trans}
use Rattle.vd_known_designs.proofs.DesignLemmas.{indicated_grown}
use Rattle.vd_known_generics.proofs.StandingLemmas.{constant_more, constants_done, constants_missing, in_store, numbers_more}
use Rattle.vd_meaning.specs.Facets.{nth}
use Rattle.vd_meaning.specs.Meanings.{meanings}
use Rattle.vd_value_rules.specs.Declaring.{constants_stand}
use Rattle.vd_known_generics.proofs.constants.constants_stand.Goals as goal

pub constant_stands-requires-clause-ready : goal.constant_stands-requires-clause-ready
constant_stands-requires-clause-ready c =
    let r = c.requires.ready in
    let here = c.loop-number.invariant.stands r.design _ r.so_far r.round r.stands (in_store c.args.design.now.table.subtypes c.args.of c.requires.own_in c.requires.choosing_in) in
    record { design = r.design; now = here.so_far.known; round = r.round; knows = here.stands.knows }

pub loop-number-preserved : goal.loop-number-preserved
loop-number-preserved c =
    let old = c.args.design.now.table.subtypes in
    let x = c.loop-number.design in
    let y = c.constant_stands.new.design in
    let ns = c.args.numbers.now in
    let at = c.loop-number.number-index in
    let next = c.in-Some.next in
    record {
      stands = λ d i s ks stands are.
          let m = nth 0 (meanings d.table c.args.default.now) in
          let here = indicated_grown old x.table.subtypes c.args.of i c.loop-number.invariant.extends are in
          constant_more d x y ks m i next.first.now c.loop-number.left.now next.rest.now c.number-item.result (drop at ns) (drop (at + 1) ns) (constants_stand m i ns s.left s.known)
          c.in-Some.ensures (numbers_more ns at (at + 1) c.number-item.result c.loop-number-test.true (omega arith) c.number-item.is)
          (c.loop-number.invariant.stands d i s ks stands are) c.in_ok-constant_stands.ensures.extends
          (λ k a is knows. c.in_ok-constant_stands.ensures.knows d i k ks a is knows here);
      extends = extends_trans old x.table.subtypes y.table.subtypes c.loop-number.invariant.extends c.in_ok-constant_stands.ensures.extends;
    }

pub returns-in_default-clause-stands : goal.returns-in_default-clause-stands
returns-in_default-clause-stands c = λ d i s ks stands are.
    let m = nth 0 (meanings d.table c.args.default.now) in
    constants_missing d c.loop-number.design ks m i (drop c.loop-number.number-index c.args.numbers.now) c.loop-number.left.now (constants_stand m i c.args.numbers.now s.left s.known)
    c.in_default.ensures (c.loop-number.invariant.stands d i s ks stands are)

pub returns-clause-stands : goal.returns-clause-stands
returns-clause-stands c = λ d i s ks stands are.
    let m = nth 0 (meanings d.table c.args.default.now) in
    constants_done d c.loop-number.design ks m i (drop c.loop-number.number-index c.args.numbers.now) c.loop-number.left.now (constants_stand m i c.args.numbers.now s.left s.known)
    (drop_of_length-le c.args.numbers.now c.loop-number-test.false) (c.loop-number.invariant.stands d i s ks stands are)
