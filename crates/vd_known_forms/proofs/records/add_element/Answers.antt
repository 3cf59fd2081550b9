use Rattle.std.proofs.Common.{ap, subst, ◌∙◌}
use Rattle.vd_forest.proofs.StoreLemmas.{extends_same, extends_trans, within_more}
use Rattle.vd_forest.specs.Forest.{parts_of}
use Rattle.vd_known_designs.proofs.DesignLemmas.{indicated_grown, knows_grown}
use Rattle.vd_known_designs.specs.Designs.{AreIndicated}
use Rattle.vd_known_designs.specs.declared.design.KnownDesign.{KnownDesign}
use Rattle.vd_known_forms.proofs.FieldLemmas.{fields_added}
use Rattle.vd_value_rules.specs.Knowledge.{indicated_twice, meaning_at, parts_at}
use Rattle.vd_known_forms.proofs.records.add_element.Goals as goal

pub add_fields-requires-clause-subtype_in : goal.add_fields-requires-clause-subtype_in
add_fields-requires-clause-subtype_in c =
    let r = c.requires.ready in (c.in_ok-subtype.ensures.indicated r.design r.now r.round r.knows).own.within

pub add_fields-requires-2-clause-subtype_in : goal.add_fields-requires-2-clause-subtype_in
add_fields-requires-2-clause-subtype_in c =
    let r = c.requires.ready in
    within_more c.indicated_twice.new.design.table.subtypes c.add_fields.new.subtypes c.in_ok-subtype.subtype.choosing c.in_ok-own.ensures.extends
    (c.in_ok-subtype.ensures.indicated r.design r.now r.round r.knows).choosing.within

pub returns-clause-fields : goal.returns-clause-fields
returns-clause-fields c = λ d k ks knows.
    let old = c.args.design.now.table.subtypes in
    let between = c.indicated_twice.new.design.table.subtypes in
    let with_own = c.add_fields.new.subtypes in
    let texts = (meaning_at d 0 c.args.element.now).texts in
    let i = indicated_twice d k (parts_at 1 c.args.element.now) in
    let are : AreIndicated between c.in_ok-subtype.subtype i =
    subst (λ f. AreIndicated between c.in_ok-subtype.subtype (indicated_twice d k f)) (c.parts.ensures ∙ ap parts_of c.skip.ensures)
    (c.in_ok-subtype.ensures.indicated d k ks knows) in
    let still : AreIndicated with_own c.in_ok-subtype.subtype i =
    indicated_grown between with_own c.in_ok-subtype.subtype i c.in_ok-own.ensures.extends are in
    record {
      own_fields =
          fields_added old between with_own c.add_fields-2.new.subtypes c.deref.result.now texts c.in_ok-subtype.subtype.own c.args.behind.own c.in_ok-own.own i.own
          c.in_ok-subtype.ensures.extends c.in_ok-choosing.ensures.extends c.requires.own_in (c.deref.ensures.value ∙ c.in_ok-names.ensures d.table) are.own
          c.in_ok-own.ensures.within c.in_ok-own.ensures.fields;
      choosing_fields =
          fields_added old with_own c.add_fields-2.new.subtypes c.add_fields-2.new.subtypes c.deref-2.result.now texts c.in_ok-subtype.subtype.choosing c.args.behind.choosing
          c.in_ok-choosing.choosing i.choosing
          (extends_trans old between with_own c.in_ok-subtype.ensures.extends c.in_ok-own.ensures.extends) (extends_same c.add_fields-2.new.subtypes)
          c.requires.choosing_in (c.deref-2.ensures.value ∙ c.in_ok-names.ensures d.table) still.choosing c.in_ok-choosing.ensures.within c.in_ok-choosing.ensures.fields;
    }

pub returns-clause-knows : goal.returns-clause-knows
returns-clause-knows c = λ d ks knows.
    let between = c.indicated_twice.new.design in
    let with_own : KnownDesign = record between { table = record between.table { subtypes = c.add_fields.new.subtypes } } in
    knows_grown d with_own c.add_fields-2.new.subtypes ks c.in_ok-choosing.ensures.extends
    (knows_grown d between c.add_fields.new.subtypes ks c.in_ok-own.ensures.extends (c.in_ok-subtype.ensures.knows d ks knows))
