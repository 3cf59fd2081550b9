use Rattle.std.proofs.Common.{◌+◌, ◌∷◌, subst, sym, take, take_all, ◌∙◌}
use Rattle.vd_forest.proofs.StoreLemmas.{extends_same, extends_trans}
use Rattle.vd_forest.specs.Store.{Extends}
use Rattle.vd_value_rules.specs.Indicated.{static_of}
use Rattle.vd_known_designs.proofs.DesignLemmas.{indicated_grown}
use Rattle.vd_known_designs.specs.Designs.{Knows}
use Rattle.vd_known_forms.proofs.ConstantLemmas.{local_value, one_constant}
use Rattle.vd_known_forms.proofs.ObjectLemmas.{knows_changed}
use Rattle.vd_known_forms.specs.Objects.{value_of}
use Rattle.vd_known_designs.specs.Known.{AreKnown}
use Rattle.vd_value_rules.specs.Knowledge.{constants_of}
use Rattle.vd_known_forms.proofs.constants.constants.Goals as goal

pub loop-number-init : goal.loop-number-init
loop-number-init c =
    let old = c.args.design.now.table.subtypes in
    record {
      knows = λ d i k ks g found knows are. c.in_ok-facts.ensures.knows d (k ∷ ks) knows;
      extends = subst (Extends old) (sym c.in_ok-facts.ensures.same) (extends_same old);
    }

pub loop-number-preserved : goal.loop-number-preserved
loop-number-preserved c =
    let old = c.args.design.now.table.subtypes in
    let x = c.loop-number.design in
    let y = c.set_object.new.self in
    let numbers = c.args.numbers.now in
    let j = c.loop-number.number-index in
    let known = static_of c.args.known in
    let facts = c.in_ok-facts.facts in
    let grown = c.in_ok-set_object.ensures.extends in
    record {
      knows = λ d i k ks g found knows are.
          let here = indicated_grown old x.table.subtypes c.args.of i c.loop-number.invariant.extends are in
          let are_facts = c.in_ok-facts.ensures.facts d i.own k ks g found knows are.own in
          let so_far = constants_of (take j numbers) i known g k in
          knows_changed d x y (so_far ∷ ks) (constants_of (take (j + 1) numbers) i known g k ∷ ks) grown
          (λ table. subst (λ l. AreKnown d.table y (l ∷ ks))
          (one_constant numbers j c.number.result _ i known (static_of facts.known) g k c.loop-number-test.true (c.number.ensures ∙ c.number-item.is) are_facts.known_is)
          (c.in_ok-set_object.ensures.known d.table i (value_of i.own g) so_far ks table here.own here.choosing
          (λ local. c.in_ok-value.ensures ∙ local_value c.args.value.now known (static_of facts.known) i.own g k.env found are_facts.known_is local) are_facts.shape_is))
          (c.loop-number.invariant.knows d i k ks g found knows are);
      extends = extends_trans old x.table.subtypes y.subtypes c.loop-number.invariant.extends grown;
    }

pub returns-clause-knows : goal.returns-clause-knows
returns-clause-knows c = λ d i k ks g found knows are.
    subst (λ ns. Knows d c.loop-number.design (constants_of ns i (static_of c.args.known) g k ∷ ks))
    (take_all c.loop-number.number-index c.args.numbers.now c.loop-number-test.false) (c.loop-number.invariant.knows d i k ks g found knows are)
