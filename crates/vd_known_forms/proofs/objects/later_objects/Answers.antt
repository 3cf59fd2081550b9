use Rattle.std.proofs.Common.{◌+◌, ◌∷◌, ap, subst, sym, take, take_all, ◌∙◌}
use Rattle.vd_composites.specs.Subtypes.{default_of}
use Rattle.vd_forest.proofs.StoreLemmas.{extends_trans}
use Rattle.vd_forest.specs.Store.{at}
use Rattle.vd_value_rules.specs.Indicated.{indicated_in, static_of}
use Rattle.vd_known_designs.proofs.DesignLemmas.{indicated_grown}
use Rattle.vd_known_designs.specs.Designs.{Knows}
use Rattle.vd_known_forms.proofs.ObjectLemmas.{knows_changed, one_later}
use Rattle.vd_known_designs.proofs.ShapeLemmas.{bounds_of_default}
use Rattle.vd_known_designs.specs.Known.{AreKnown}
use Rattle.vd_known_designs.specs.Shapes.{default_shape}
use Rattle.vd_value_rules.specs.Knowledge.{later_objects as objects_later}
use Rattle.vd_known_forms.proofs.objects.later_objects.Goals as goal

pub loop-number-preserved : goal.loop-number-preserved
loop-number-preserved c =
    let old = c.args.design.now.table.subtypes in
    let x = c.loop-number.design in
    let y = c.set_object.new.self in
    let numbers = c.args.numbers.now in
    let j = c.loop-number.number-index in
    let known = static_of c.args.known in
    let grown = c.in_ok-set_object.ensures.extends in
    record {
      knows = λ d i k ks knows are.
          let here = indicated_grown old x.table.subtypes c.args.of i c.loop-number.invariant.extends are in
          let so_far = objects_later (take j numbers) i known k in
          let own = c.cursor.ensures ∙ ap (λ fs. at fs c.args.of.own) c.store.ensures in
          let shape = bounds_of_default i.own.subtype ∙ ap (λ a. default_shape a.subtype) (sym (ap indicated_in own ∙ are.own.is)) ∙ sym c.in_ok-shape.ensures in
          knows_changed d x y (so_far ∷ ks) (objects_later (take (j + 1) numbers) i known k ∷ ks) grown
          (λ table. subst (λ l. AreKnown d.table y (l ∷ ks)) (one_later numbers j c.number.result _ i known k c.loop-number-test.true (c.number.ensures ∙ c.number-item.is))
          (c.in_ok-set_object.ensures.known d.table i (default_of i.own.subtype) so_far ks table here.own here.choosing
          (λ local. absurd (cc (local, c.requires.later))) shape))
          (c.loop-number.invariant.knows d i k ks knows are);
      extends = extends_trans old x.table.subtypes y.subtypes c.loop-number.invariant.extends grown;
    }

pub returns-clause-knows : goal.returns-clause-knows
returns-clause-knows c = λ d i k ks knows are.
    subst (λ ns. Knows d c.loop-number.design (objects_later ns i (static_of c.args.known) k ∷ ks))
    (take_all c.loop-number.number-index c.args.numbers.now c.loop-number-test.false) (c.loop-number.invariant.knows d i k ks knows are)
