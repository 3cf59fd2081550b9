use Rattle.std.proofs.Common.{◌+◌, ◌∷◌, subst, sym, take, take_all, ◌∙◌}
use Rattle.vd_forest.proofs.StoreLemmas.{extends_same}
use Rattle.vd_forest.specs.Store.{Extends}
use Rattle.vd_known_designs.specs.Designs.{AreIndicated, Knows}
use Rattle.vd_known_forms.proofs.ObjectLemmas.{knows_changed, one_signal}
use Rattle.vd_known_designs.specs.Known.{AreKnown}
use Rattle.vd_value_rules.specs.Knowledge.{signals_known}
use Rattle.vd_known_forms.proofs.objects.signals.Goals as goal

pub loop-number-preserved : goal.loop-number-preserved
loop-number-preserved c =
    let old = c.args.design.now.table.subtypes in
    let x = c.loop-number.design in
    let y = c.set_signal.new.self in
    let numbers = c.args.numbers.now in
    let j = c.loop-number.number-index in
    let same = c.in_ok-set_signal.ensures.same in
    record {
      knows = λ d i k ks knows are.
          let here = subst (λ fs. AreIndicated fs c.args.of i) (sym c.loop-number.invariant.same) are in
          let so_far = signals_known (take j numbers) i k in
          knows_changed d x y (so_far ∷ ks) (signals_known (take (j + 1) numbers) i k ∷ ks)
          (subst (Extends x.table.subtypes) (sym same) (extends_same x.table.subtypes))
          (λ table. subst (λ l. AreKnown d.table y (l ∷ ks)) (one_signal numbers j c.number.result _ i k c.loop-number-test.true (c.number.ensures ∙ c.number-item.is))
          (c.in_ok-set_signal.ensures.known d.table i so_far ks table here.own here.choosing))
          (c.loop-number.invariant.knows d i k ks knows are);
      same = same ∙ c.loop-number.invariant.same;
    }

pub returns-clause-knows : goal.returns-clause-knows
returns-clause-knows c = λ d i k ks knows are.
    subst (λ ns. Knows d c.loop-number.design (signals_known ns i k ∷ ks))
    (take_all c.loop-number.number-index c.args.numbers.now c.loop-number-test.false) (c.loop-number.invariant.knows d i k ks knows are)
